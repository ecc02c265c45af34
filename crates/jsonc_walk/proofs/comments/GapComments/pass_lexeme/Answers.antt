use Rattle.std.proofs.Common.{refl}
use Rattle.jsonc_walk.specs.Comments.{placed_from}
use Rattle.jsonc_walk.proofs.lemmas.NotedComments.{passes_lexeme}
use Rattle.jsonc_walk.proofs.comments.GapComments.pass_lexeme.Goals as goal

pub returns : goal.returns
returns g c = λ w lexeme. passes_lexeme c.args.self.now c.end_gap.new.self _ (placed_from w c.args.range) c.in_ok-end_gap.ensures refl refl refl lexeme
