use Rattle.std.proofs.Common.{refl}
use Rattle.jsonc_sort.proofs.laws.worked_headers.Goals as goal

pub returns : goal.returns
unfolding lib.Utf8.encode
returns c = record { one = refl; all = refl; none = refl; travels = refl; stays = refl }
