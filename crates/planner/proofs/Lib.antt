-- What holds of the definitions of specs/.
pub mod AgreeLaws
pub mod ChoiceLaws
pub mod EmitLaws
pub mod Examples
pub mod MirroredLaws
pub mod WalkedLaws
