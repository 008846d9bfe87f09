-- What holds of the definitions of specs/.
pub mod ScriptLaws
pub mod ToldLaws
