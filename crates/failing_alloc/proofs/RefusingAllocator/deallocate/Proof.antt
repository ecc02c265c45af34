-- Every block is counted, and goes back to the heap.
use Rattle.std.proofs.Common.{◌≡◌, ◌^◌, ◌<◌, List, [], ◌∷◌, refl, ap, w64, Bor}
use mir.Syntax.{Args, Fn, a_type, dnil, dcons}
use mir.Val.{Val, vunit, vint, vptr}
use mir.MapTy.{inst_fn}
use base.Logic.{fst∗, id⊢, never}
use base.Fml.{Fml, ftrue, fsep, flft}
use prog.Memory.{size, align, capped}
use prog.Wp.{WpFn}
use types.Kit.{Item, ‵, raw, ◌⊛◌, some, later, given, prop, ◌$◌, ◌∵◌, !, qed, by, move, keep, drop, group, learn, use1, use2, split, split3, join, pick, fsplit, fjoin, feq_i, feq_l, await, regoal}
use types.Logic.{sem}
use types.Run.{addr, fld, stop, of_opd, unit_lit, no_more, and_then, returns, enter}
use types.ByLocal.{alloc_all, pass_all, free_all, look_at, get, through, sets, lands_as}
use contract.BorrowLft.{◌⊑◌, ⊑_trans}
use contract.Monad.{fact}
use contract.Running.{tables, tables_of}
use denote.Builtin.{unit, usize, RawPtr, RefOf}
use denote.Exit.{yes}
use denote.Memory.{hidden_shr}
use denote.Param.{bounded}
use denote.Plain.{uint_vals, uint_Tells}
use denote.RattleType.{RattleType, owns}
use denote.RawPtr.{Ptr, block_ptr, null_ptr, in_a_block, ptr_val, rawptr_vals, rawptr_Tells}
use denote.Ref.{shr_vals}
use denote.Signature.{Slot, plain, types_at}
use denote.Steps.{heard, nothing, only}
use denote.Triple.Call.{calls_at}
use denote.Triple.Table.{framed}
use denote.Triple.Walked.{Stays, stay_dropped, walk_of, Goes-dropped}
use Rattle.std.specs.Allocator.{owned_block}
use Rattle.std.proofs.raw_atomic.Walks.{proved, leaves}
use Rattle.std.proofs.alloc.Calls.{Al, seen, token, Gives, at_gives, Gives-goes, Gives-Gives}
use Rattle.failing_alloc.proofs.Parts.{Whole, heap_at, turns_at, parts, TakesBack, taken, taking}
use Rattle.failing_alloc.specs.contracts.Turns as turns
use Rattle.failing_alloc.proofs.Turns.take_back.Met.{met as take_back}
use Rattle.failing_alloc.specs.contracts.RefusingAllocator.deallocate as call
use Rattle.failing_alloc.specs.contracts.RefusingAllocator.deallocate.Key as key
use Rattle.failing_alloc.proofs.RefusingAllocator.deallocate.Statement.{statement}
use Rattle.failing_alloc.proofs.RefusingAllocator.deallocate.Code as code

module _ (Z : Al) where
  abbrev self : Slot 2
  self = RefOf (0 ∷ []) tt (plain (λ _. Whole Z)) (λ _. tt)

  abbrev of : RattleType → Slot 2
  of R = plain (λ _. R)

  abbrev stays : Stays (call.ended Z.row Z.g Z.d Z.drops).signature.params (call.ended Z.row Z.g Z.d Z.drops).kept
  stays = (stay_dropped (self) yes, (stay_dropped (of RawPtr) yes, (stay_dropped (of usize) yes, (stay_dropped (of usize) yes, tt))))

  abbrev given_args : Args
  given_args = bounded (a_type ∷ []) (Z.row, tt) (dcons Z.d (dcons Z.drops dnil))

  abbrev function : Fn
  function = inst_fn (given_args) code.function

pub deallocate_spec : {M : Type 1} → statement M
unfolding tables_of
deallocate_spec 𝓤 𝓛 𝓜 𝓡 wired A laws g d drops met _ =
    let Z : Al = record { row = A; laws = laws; g = g; d = d; drops = drops } in
    let E = call.ended A g d drops in
    let c = call.clauses A g d drops 𝓛 𝓜.mem 𝓡.returns in
    let 𝓣 = tables 𝓤 𝓛.H 𝓜 𝓡 𝓡.env in
    let goes = λ (R : RattleType). Goes-dropped 𝓛 2 (of Z R) yes in
    proved 𝓛 E (stays Z) c 𝓜 𝓡
    (Goes-dropped 𝓛 2 (self Z) yes (λ κs x w. refl), (goes RawPtr (λ κs x w. refl), (goes usize (λ κs x w. refl), (goes usize (λ κs x w. refl), tt))))
    (key.name (given_args Z)) (function Z) (code.unfolded 𝓤 𝓛.H 𝓜 𝓡 wired (A, tt) d drops)
    (λ κs. (shr_vals, (rawptr_vals, (uint_vals w64, (uint_vals w64, tt))))) (λ κs. ((λ r vs s. s.0), (rawptr_Tells, (uint_Tells w64, (uint_Tells w64, tt))))) (λ κs qs bounds a τ are.
    let r : Bor (Whole Z).Denot = a.0 in
    let n = a.1.1.0 in
    let al = a.1.1.1.0 in
    let κ = κs.0 in
    let q = qs.0 in
    let h = r.now.heap in
    let fn : n < 2 ^ 64 = are.1.1.0.1 in
    let fa : al < 2 ^ 64 = are.1.1.1.0.1 in
    let W = walk_of 𝓛 E (stays Z) c in
    let y : Ptr → W.Ghost = λ p. ((κs, qs, bounds, (r, (p, (n, (al, tt)))), (shr_vals r, (rawptr_vals p, (uint_vals w64 n, (uint_vals w64 al, tt))))), τ) in
    let here : Item 𝓤 = ‵ (flft κ q) in
    let there : Item 𝓤 = ‵ (flft κs.1.0 qs.1.0) ⊛ ‵ ftrue in
    let block : Ptr → Fml = λ p. owned_block (token Z h) τ p in
    let turned : Fml = hidden_shr turns.the_row κ r.now.turns (turns_at Z r.ref_ptr).0 (turns_at Z r.ref_ptr).1 in
    let takes = taken 𝓛 𝓜.mem 𝓡.returns κ q (turns_at Z r.ref_ptr) r.now.turns in
    qed 𝓛 (((here ⊛ there) ⊛ ‵ (owns (types_at E.signature.params κs) a (y a.1.0).0.4)) ∷ (raw (fact 𝓤 (κs.1.0 ⊑ A.lives)) ⊛ raw (fact 𝓤 ((capped (size τ) ≡ n) × (capped (align τ) ≡ al))) ⊛ ‵ (block a.1.0)) ∷ []) ∵
    move ! (1 ∷ []) $ split3 ! $ heard ! _ (λ le. heard ! _ (λ said.
    move ! (1 ∷ []) $ split ! $ split ! $ move ! (2 ∷ []) $ fsplit ! $ fsplit ! $ keep ! (5 ∷ 1 ∷ 3 ∷ 4 ∷ []) $
    in_a_block ! a.1.0 block (fst∗ 𝓤 (never 𝓤) (sem 𝓛 (token Z h τ null_ptr))) (λ b o e.
    regoal ! (λ p. prop (WpFn 𝓤 𝓛.H 𝓣.C 𝓣.Λ (function Z) (vptr r.ref_ptr.0 r.ref_ptr.1 ∷ ptr_val p ∷ vint w64 n ∷ vint w64 al ∷ []) (W.post (y p)))) e refl $
    fsplit ! $ move ! (2 ∷ []) $ use1 𝓛 (‵ (seen Z κ (heap_at Z r.ref_ptr) h) ⊛ ‵ turned) (parts Z 𝓛 κ r) $ split ! $
    enter ! _ _ _ _ _ $ alloc_all ! (λ l. pass_all ! refl ((tt, tt), ((tt, tt), ((tt, record { fits = fn }), ((tt, record { fits = fa }), tt)))) $
    sets ! (addr ! (through ! refl (fld ! refl (stop !)))) refl (tt, tt) $
    move ! (4 ∷ 1 ∷ []) $ use2 𝓛 (raw ((TakesBack 𝓛 𝓜.mem 𝓡.returns).pre takes)) (taking 𝓛 𝓜.mem 𝓡.returns κ q (turns_at Z r.ref_ptr) r.now.turns) $
    calls_at ! (framed 𝓤 𝓛.H 𝓜 𝓣) (TakesBack 𝓛 𝓜.mem 𝓡.returns) (take_back 𝓤 𝓛 𝓜 𝓡 (code.calls-failing_alloc::Turns::take_back 𝓡.env wired)) takes (and_then ! (get ! refl) (no_more !)) (λ w.
    use1 𝓛 (later (some (λ (t : Unit {0}). ((here ⊛ ‵ ftrue) ⊛ ‵ (unit.own_val t (w ∷ []))) ⊛ some (λ (ws : Unit {0} × Unit {0}). ‵ (fsep ftrue ftrue) ⊛ ‵ ftrue)))) (id⊢ 𝓤 _) $
    await ! tt $ pick ! (λ t. split ! $ split ! $ move ! (1 ∷ []) $ feq_l ! (λ e'. split ! $ move ! (1 ∷ 2 ∷ []) $ drop ! $ drop ! $
    lands_as ! (ap only e') refl (tt, tt) $
    sets ! (addr ! (through ! refl (fld ! refl (stop !)))) refl (tt, tt) $
    let gives : (Gives Z 𝓛 𝓜.mem 𝓡.returns).Ghost = at_gives Z 𝓛 𝓜.mem 𝓡.returns κ q (heap_at Z r.ref_ptr) h b o n al τ in
    move ! (2 ∷ 3 ∷ 1 ∷ 0 ∷ []) $ group ! 4 $
    use1 𝓛 (raw ((Gives Z 𝓛 𝓜.mem 𝓡.returns).pre gives)) (Gives-goes Z 𝓛 𝓜.mem 𝓡.returns κ q (heap_at Z r.ref_ptr) h (⊑_trans κ κs.1.0 A.lives bounds.0 le) b o n al τ said.0 said.1 fn fa) $
    calls_at ! (framed 𝓤 𝓛.H 𝓜 𝓣) (Gives Z 𝓛 𝓜.mem 𝓡.returns) (met.deallocate drops) gives (and_then ! (get ! refl) (and_then ! (get ! refl) (and_then ! (get ! refl) (and_then ! (get ! refl) (no_more !))))) (λ v.
    use1 𝓛 (later (given (v ≡ vunit) here)) (Gives-Gives Z 𝓛 𝓜.mem 𝓡.returns κ q (heap_at Z r.ref_ptr) h b o n al τ v) $ await ! tt $ learn ! (λ is_unit.
    lands_as ! is_unit refl (tt, tt) $ sets ! (of_opd ! (unit_lit !)) refl (tt, tt) $ returns ! (look_at ! 0 refl) $ free_all ! refl $
    join ! $ nothing ! $ feq_i ! (List Val) (vunit ∷ []) (vunit ∷ []) refl $
    nothing ! $ nothing ! $ fjoin ! $ nothing ! $ fjoin ! $ nothing ! $ fjoin ! $ nothing ! $ fjoin ! $ move ! (3 ∷ 0 ∷ 1 ∷ 2 ∷ []) $
    by ! (leaves 𝓛 E (stays Z) c (y (block_ptr b o)) vunit tt (tt, (tt, (tt, (tt, tt)))) (tt, (tt, (tt, (tt, tt)))))))))))))))
