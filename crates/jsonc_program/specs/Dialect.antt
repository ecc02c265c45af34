-- The options of the dialects.
use Rattle.std.specs.Prelude.{false}
use Rattle.jsonc_text.specs.Options.{Options, all_on, json_with_comments, plain_json}
use Rattle.jsonc_words.specs.declared.call.Dialect.{Dialect}
use Rattle.jsonc_words.specs.declared.call.Dialect.TheVariants.{Json, Jsonc, Json5, All}

-- the texts of a dialect: of JSON5 all that can be allowed, but that each comma has to be there
abbrev pub options_of : Dialect → Options
options_of Json = plain_json
options_of Jsonc = json_with_comments
options_of Json5 = record all_on { missing_commas = false }
options_of All = all_on
