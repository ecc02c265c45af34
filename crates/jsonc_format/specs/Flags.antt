-- Which containers are on one line.
use Rattle.std.specs.Prelude.{Bool, List, [], ◌∷◌, if◌then◌else◌}
use Rattle.jsonc_text.specs.Lexemes.{Scanned}
use Rattle.jsonc_format.specs.Format.{Piece, opens, is_flat}

-- of each container that these pieces open, whether it is empty or on one line, in the order of their opening brackets
abbrev pub flats : List Piece → List Bool
flats [] = []
flats (p ∷ ps) = if opens p.what then is_flat ps ∷ flats ps else flats ps

-- the same of a piece and those that follow it
abbrev pub flats_of : Scanned → List Piece → List Bool
flats_of w ps = if opens w then is_flat ps ∷ flats ps else flats ps
