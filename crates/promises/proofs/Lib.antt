-- What holds of the definitions of specs/.
pub mod AnyWordsLaws
pub mod CallsLaws
pub mod EditionsLaws
pub mod FirstDemandLaws
pub mod KeptNeighboursLaws
pub mod KeysOfSlotLaws
pub mod ObscuredLaws
pub mod ReplacementsLaws
pub mod SecondDemandLaws
pub mod ThirdDemandLaws
pub mod UncountedLaws
