-- What holds of the definitions of specs/.
pub mod DeletesLaws
pub mod Examples
