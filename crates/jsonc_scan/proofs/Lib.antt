pub mod Blanks
pub mod NumberParts
pub mod NoLexemes
pub mod NoNumbers
pub mod OneFault
pub mod OneNumberFault
pub mod Reading
pub mod RefusedLexemes
pub mod NumberFaults
pub mod WordFaults
pub mod Words
mod WholeNumbers
