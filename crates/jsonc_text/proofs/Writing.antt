-- What is written whatever the options of the format is written without any.
use Rattle.std.proofs.Common.{ℕ, List}
use Rattle.std.specs.Fmt.{WritesOnOk, WritesStyledOnOk}
use Rattle.std.specs.Prelude.{Result}
use Rattle.std.specs.declared.fmt.Error.{Error}
use Rattle.std.specs.declared.fmt.Formatter.{Formatter}

pub plain_of_styled : {W : Type 0} (took : W → List ℕ → W → Type 0) (f : Formatter W) (r : Result (Unit {0}) Error) (bs : List ℕ) (g : Formatter W) → WritesStyledOnOk took f r bs g → WritesOnOk took f r bs g
plain_of_styled took f r bs g styled plain ok =
    let w = styled plain.flush ok in
    record { wrote = w.wrote; plain = record { bare = rw w.spec plain.bare; flush = w.flush } }
