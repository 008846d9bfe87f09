-- What holds of the definitions of specs/.
pub mod BitLaws
pub mod ComparisonLaws
pub mod PatternLaws
pub mod WordLaws
