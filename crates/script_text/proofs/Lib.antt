-- What holds of the definitions of specs/.
pub mod DecimalLaws
pub mod Examples
pub mod PartsLaws
