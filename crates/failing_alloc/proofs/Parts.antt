-- What a reference to a `Refusing` gives: one to its heap and one to its turns. And what is handed over where the turns are asked.
use Rattle.std.proofs.Common.{ℕ, ◌+◌, List, [], ◌∷◌, refl, Bor}
use seplogic.Ra.Ura.{Ura}
use mir.Val.{Val, vptr}
use base.Logic.{ent, sep}
use base.Fml.{Lft, Share, flft}
use prog.Memory.{Memory, size, align, up}
use prog.Routine.{Routine}
use types.Logic.{Logic, sem}
use types.Kit.{‵, ◌$◌, ◌∵◌, !, qed, move, keep, join, fsplit, fjoin, feq_i, done}
use contract.Monad.{Fun}
use denote.RattleType.{RattleType}
use denote.Memory.{hidden_shr}
use denote.Opens.{unhide}
use denote.Param.{param}
use denote.Steps.{nothing}
use denote.Triple.Spec.{triple_of}
use denote.Triple.Statement.{Contract}
use Rattle.std.proofs.alloc.Calls.{Al, α, seen}
use Rattle.failing_alloc.specs.contracts.Refusing as whole
use Rattle.failing_alloc.specs.contracts.Turns as turns
use Rattle.failing_alloc.specs.contracts.Turns.refuses as asks
use Rattle.failing_alloc.specs.contracts.Turns.take_back as takes

-- A `Refusing` over the allocator, and the places of its parts where it lies at a place.
module _ (Z : Al) where
  abbrev pub Whole : RattleType
  Whole = whole.the_row (param 0 Z.row)

  abbrev pub heap_at : ℕ × ℕ → ℕ × ℕ
  heap_at p = (p.0, p.1 + up (align (α Z)) 0)

  abbrev pub turns_at : ℕ × ℕ → ℕ × ℕ
  turns_at p = (p.0, p.1 + up 8 (up (align (α Z)) 0 + size (α Z)))

  module _ {M : Type 1} {𝓤 : Ura M} (𝓛 : Logic 𝓤) (κ : Lft) (r : Bor (whole.the_row Z.row).Denot) where
    pub parts : ent 𝓤 (sem 𝓛 (hidden_shr (Whole) κ r.now r.ref_ptr.0 r.ref_ptr.1))
        (sep 𝓤 (sem 𝓛 (seen Z κ (heap_at r.ref_ptr) r.now.heap)) (sem 𝓛 (hidden_shr turns.the_row κ r.now.turns (turns_at r.ref_ptr).0 (turns_at r.ref_ptr).1)))
    parts = qed 𝓛 (‵ (hidden_shr (Whole) κ r.now r.ref_ptr.0 r.ref_ptr.1) ∷ []) ∵ unhide ! $ fsplit ! $ fsplit ! $ move ! (1 ∷ []) $ fsplit ! $ keep ! (2 ∷ 0 ∷ []) $ done !

module _ {M : Type 1} {𝓤 : Ura M} (𝓛 : Logic 𝓤) (memory : Memory → base.Logic.SProp 𝓤) (run : Routine → Fun 𝓤) where
  open 𝓛 use {A}

  abbrev pub Asks : Contract 𝓤
  Asks = triple_of 𝓛 asks.signature (asks.spec 𝓛 memory run)

  abbrev pub TakesBack : Contract 𝓤
  TakesBack = triple_of 𝓛 takes.signature (takes.spec 𝓛 memory run)

  module _ (κ : Lft) (q : Share) (p : ℕ × ℕ) (t : turns.the_row.Denot) where
    abbrev pub asked : Asks.Ghost
    asked = (((κ, tt), (q, tt), tt, (record { ref_ptr = p; now = t }, tt), (vptr p.0 p.1 ∷ [], tt)), tt)

    pub asking : ent 𝓤 (sep 𝓤 (A.lft κ q) (sem 𝓛 (hidden_shr turns.the_row κ t p.0 p.1))) (Asks.pre asked)
    asking =
        qed 𝓛 (‵ (flft κ q) ∷ ‵ (hidden_shr turns.the_row κ t p.0 p.1) ∷ []) ∵
        nothing ! $ move ! (1 ∷ 0 ∷ []) $ join ! $ nothing ! $ move ! (2 ∷ []) $ feq_i ! (List Val) (vptr p.0 p.1 ∷ []) (vptr p.0 p.1 ∷ []) refl $ fjoin ! $ fjoin ! $
        move ! (1 ∷ 0 ∷ []) $ join ! $
        nothing ! $ move ! (1 ∷ 0 ∷ []) $ done !

    abbrev pub taken : TakesBack.Ghost
    taken = (((κ, tt), (q, tt), tt, (record { ref_ptr = p; now = t }, tt), (vptr p.0 p.1 ∷ [], tt)), tt)

    pub taking : ent 𝓤 (sep 𝓤 (A.lft κ q) (sem 𝓛 (hidden_shr turns.the_row κ t p.0 p.1))) (TakesBack.pre taken)
    taking =
        qed 𝓛 (‵ (flft κ q) ∷ ‵ (hidden_shr turns.the_row κ t p.0 p.1) ∷ []) ∵
        nothing ! $ move ! (1 ∷ 0 ∷ []) $ join ! $ nothing ! $ move ! (2 ∷ []) $ feq_i ! (List Val) (vptr p.0 p.1 ∷ []) (vptr p.0 p.1 ∷ []) refl $ fjoin ! $ fjoin ! $
        move ! (1 ∷ 0 ∷ []) $ join ! $
        nothing ! $ move ! (1 ∷ 0 ∷ []) $ done !
