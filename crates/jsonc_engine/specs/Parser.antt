-- The words of the parser's contracts that the contracts of this crate use.
pub use Rattle.jsonc_cst.specs.Document.{RefusesText, EditError, HasNoDeeperValue, IsWithin, LiesIn, OutOfMemory, edit_error_text, printed_of}
pub use Rattle.jsonc_text.specs.Faults.{IsFault}
pub use Rattle.jsonc_text.specs.Grammar.{IsDocument}
pub use Rattle.jsonc_text.specs.Messages.{error_text}
pub use Rattle.jsonc_text.specs.Options.{Options, all_on}
pub use Rattle.jsonc_text.specs.OptionsOf.{parse_options}
pub use Rattle.jsonc_text.specs.Plain.{Plain}
pub use Rattle.jsonc_text.specs.declared.edit.EditError.TheVariants.{NestingDepthExceeded}
pub use Rattle.jsonc_text.specs.declared.errors.ParseError.{ParseError}
pub use Rattle.jsonc_walk.specs.Faults.{ParseFault}
