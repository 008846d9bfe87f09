-- What holds of the definitions of specs/.
pub mod CallsLaws
pub mod SpotsLaws
pub mod StepsLaws
pub mod UntilLaws
