-- What holds of the definitions of specs/.
pub mod Examples
pub mod LookupLaws
pub mod WidthsLaws
