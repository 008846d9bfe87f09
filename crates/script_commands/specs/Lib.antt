-- Script lines: what each means, in document 01's words.
-- CommandsLaws: what the definitions say. LineLaws: for the code's proofs.
pub mod Commands
pub mod LineLaws
pub mod Forms
pub mod FormsLaws
pub mod CommandsLaws
pub mod Examples
