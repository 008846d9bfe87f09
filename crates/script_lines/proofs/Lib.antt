-- What holds of the definitions of specs/.
pub mod BlocksLaws
pub mod Examples
pub mod HeldLaws
pub mod LinesLaws
