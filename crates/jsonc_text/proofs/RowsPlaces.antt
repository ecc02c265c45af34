-- Worked rows on places.
use Rattle.std.proofs.Common.{refl, [], ◌∷◌, ◌++◌, codes}
use lib.Utf8.{encode}
use Rattle.jsonc_text.specs.Places.{LineColumn}
use Rattle.jsonc_text.specs.Rows.{accented, after_carriage_return}

pub wide_column : LineColumn accented 6 1 6
unfolding encode
wide_column = record { before = codes "[\"" ++ 0xE9 ∷ codes "\" "; after = codes "@]"; split = refl; at = refl; position = refl }

pub after_cr : LineColumn after_carriage_return 4 2 1
unfolding encode
after_cr = record { before = codes "//x" ++ 0x0D ∷ []; after = codes "@"; split = refl; at = refl; position = refl }
