-- What holds of the definitions of specs/.
pub mod BuffersLaws
