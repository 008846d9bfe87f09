-- Carrying out with a neighbour list lent. ListedSteps: what a step answers and leaves. ListedStepsLaws: how the answer with a list hangs together with the one
-- without.
pub mod ListedSteps
pub mod ListedStepsLaws
