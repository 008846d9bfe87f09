-- What holds of the definitions of specs/.
pub mod CostsLaws
pub mod EndsLaws
pub mod Examples
