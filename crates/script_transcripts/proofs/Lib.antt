-- What holds of the definitions of specs/.
pub mod ChangesLaws
pub mod Examples
pub mod LinesPrintedLaws
pub mod WholeLaws
