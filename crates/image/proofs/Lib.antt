-- What holds of the definitions of specs/.
pub mod AnswersLaws
pub mod BytesLaws
pub mod ChecksLaws
pub mod Examples
pub mod IndicesLaws
pub mod LoadLaws
pub mod Meaning
pub mod ReadingLaws
pub mod ReloadingLaws
pub mod ResavingLaws
pub mod RoundTripLaws
pub mod SaveLaws
