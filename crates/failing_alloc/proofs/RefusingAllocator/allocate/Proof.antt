-- A refused request is answered `Err`. Any other goes to the heap, and so does the answer come back.
use Rattle.std.proofs.Common.{◌≡◌, ◌^◌, ◌<◌, Bool, true, false, [], ◌∷◌, Ok, Err, refl, ap, w64, Bor}
use mir.Syntax.{Args, Fn, Body, a_type, dnil, dcons, seq}
use mir.MapTy.{inst_fn}
use base.Logic.{id⊢}
use base.Fml.{ftrue, fsep, flft}
use prog.Memory.{size, align, capped}
use types.Kit.{Item, ‵, raw, ◌⊛◌, some, later, prop, at_ret, Sq, ◌$◌, ◌∵◌, !, qed, by, move, keep, drop, use0, use1, use2, split, join, pick, fsplit, fjoin, feq_l, await}
use types.Part.{agg}
use types.Run.{addr, lit, fld, stop, no_more, and_then, first, branches, skips, exec, returns, returns_within, enter}
use types.ByLocal.{alloc_all, pass_all, free_all, look_at, get, through, sets, lands_as, env}
use contract.BorrowLft.{◌⊑◌, ⊑_trans}
use contract.Monad.{fact}
use contract.Running.{tables, tables_of}
use denote.Builtin.{usize, bool, RefOf}
use denote.Exit.{yes}
use denote.Memory.{hidden_shr}
use denote.Param.{bounded}
use denote.Plain.{uint_vals, uint_Tells}
use denote.RattleType.{owns}
use denote.RawPtr.{block_ptr}
use denote.Ref.{shr_vals}
use denote.Signature.{Slot, plain, types_at}
use denote.Steps.{heard, nothing, only}
use denote.Triple.Call.{calls_at}
use denote.Triple.Table.{framed}
use denote.Triple.Walked.{Stays, stay_dropped, walk_of, Goes-dropped}
use Rattle.std.proofs.raw_atomic.Walks.{proved, leaves}
use Rattle.std.proofs.alloc.Calls.{Al, seen, Answer, answer_val, Answer-typed, Answer-Ok, Answer-err, Takes, at_takes, Answered, Takes-goes, Takes-gives, answers}
use Rattle.failing_alloc.proofs.Parts.{Whole, heap_at, turns_at, parts, Asks, asked, asking}
use Rattle.failing_alloc.specs.contracts.Turns as turns
use Rattle.failing_alloc.proofs.Turns.refuses.Met.{met as refuses}
use Rattle.failing_alloc.specs.contracts.RefusingAllocator.allocate as call
use Rattle.failing_alloc.specs.contracts.RefusingAllocator.allocate.Key as key
use Rattle.failing_alloc.proofs.RefusingAllocator.allocate.Statement.{statement}
use Rattle.failing_alloc.proofs.RefusingAllocator.allocate.Code as code

abbrev rest_of : Body → Body
rest_of (seq a b) = b
rest_of b = b

module _ (Z : Al) where
  abbrev self : Slot 2
  self = RefOf (0 ∷ []) tt (plain (λ _. Whole Z)) (λ _. tt)

  abbrev number : Slot 2
  number = plain (λ _. usize)

  abbrev stays : Stays (call.ended Z.row Z.g Z.d Z.drops).signature.params (call.ended Z.row Z.g Z.d Z.drops).kept
  stays = (stay_dropped (self) yes, (stay_dropped (number) yes, (stay_dropped (number) yes, tt)))

  abbrev given : Args
  given = bounded (a_type ∷ []) (Z.row, tt) (dcons Z.d (dcons Z.drops dnil))

  abbrev function : Fn
  function = inst_fn (given) code.function

pub allocate_spec : {M : Type 1} → statement M
unfolding tables_of
allocate_spec 𝓤 𝓛 𝓜 𝓡 wired A laws g d drops met _ =
    let Z : Al = record { row = A; laws = laws; g = g; d = d; drops = drops } in
    let E = call.ended A g d drops in
    let c = call.clauses A g d drops 𝓛 𝓜.mem 𝓡.returns in
    let 𝓣 = tables 𝓤 𝓛.H 𝓜 𝓡 𝓡.env in
    let body = (function Z).body in
    proved 𝓛 E (stays Z) c 𝓜 𝓡
    (Goes-dropped 𝓛 2 (self Z) yes (λ κs x w. refl), (Goes-dropped 𝓛 2 (number Z) yes (λ κs x w. refl), (Goes-dropped 𝓛 2 (number Z) yes (λ κs x w. refl), tt)))
    (key.name (given Z)) (function Z) (code.unfolded 𝓤 𝓛.H 𝓜 𝓡 wired (A, tt) d drops)
    (λ κs. (shr_vals, (uint_vals w64, (uint_vals w64, tt)))) (λ κs. ((λ r vs s. s.0), (uint_Tells w64, (uint_Tells w64, tt)))) (λ κs qs bounds a τ are.
    let r : Bor (Whole Z).Denot = a.0 in
    let n = a.1.0 in
    let al = a.1.1.0 in
    let κ = κs.0 in
    let q = qs.0 in
    let h = r.now.heap in
    let fn : n < 2 ^ 64 = are.1.0.1 in
    let fa : al < 2 ^ 64 = are.1.1.0.1 in
    let W = walk_of 𝓛 E (stays Z) c in
    let y : W.Ghost = ((κs, qs, bounds, a, (shr_vals r, (uint_vals w64 n, (uint_vals w64 al, tt)))), τ) in
    let here : Item 𝓤 = ‵ (flft κ q) in
    let there : Item 𝓤 = ‵ (flft κs.1.0 qs.1.0) ⊛ ‵ ftrue in
    let asks = asked 𝓛 𝓜.mem 𝓡.returns κ q (turns_at Z r.ref_ptr) r.now.turns in
    let takes : (Takes Z 𝓛 𝓜.mem 𝓡.returns).Ghost = at_takes Z 𝓛 𝓜.mem 𝓡.returns κ q (heap_at Z r.ref_ptr) h n al τ in
    let refused : Sq 𝓛 (here ∷ there ∷ []) (prop (W.post y (answer_val false 0 0))) =
    join ! $ use0 𝓛 (‵ (Answer.own_val (Err (record {})) (answer_val false 0 0 ∷ []))) (Answer-err 𝓛) $
    nothing ! $ nothing ! $ fjoin ! $ nothing ! $ fjoin ! $ nothing ! $ fjoin ! $ nothing ! $ move ! (3 ∷ 1 ∷ 2 ∷ 0 ∷ []) $
    by ! (leaves 𝓛 E (stays Z) c y (answer_val false 0 0) (Err (record {})) (tt, (tt, (tt, tt))) (tt, (tt, (tt, tt)))) in
    qed 𝓛 (((here ⊛ there) ⊛ ‵ (owns (types_at E.signature.params κs) a y.0.4)) ∷ (raw (fact 𝓤 (κs.1.0 ⊑ A.lives)) ⊛ raw (fact 𝓤 ((capped (size τ) ≡ n) × (capped (align τ) ≡ al)))) ∷ []) ∵
    move ! (1 ∷ []) $ split ! $ heard ! _ (λ le. heard ! _ (λ said.
    -- [the token of self's lifetime; the other tokens; what the parameters own]
    split ! $ split ! $ move ! (2 ∷ []) $ fsplit ! $ fsplit ! $
    keep ! (1 ∷ 3 ∷ 4 ∷ []) $
    use1 𝓛 (‵ (seen Z κ (heap_at Z r.ref_ptr) h) ⊛ ‵ (hidden_shr turns.the_row κ r.now.turns (turns_at Z r.ref_ptr).0 (turns_at Z r.ref_ptr).1)) (parts Z 𝓛 κ r) $ split ! $
    enter ! _ _ _ _ _ $ alloc_all ! (λ l. pass_all ! refl ((tt, tt), ((tt, record { fits = fn }), ((tt, record { fits = fa }), tt))) $
    let En = env (function Z).locals l in
    sets ! (addr ! (through ! refl (fld ! refl (stop !)))) refl (tt, tt) $
    move ! (2 ∷ 1 ∷ []) $ use2 𝓛 (raw ((Asks 𝓛 𝓜.mem 𝓡.returns).pre asks)) (asking 𝓛 𝓜.mem 𝓡.returns κ q (turns_at Z r.ref_ptr) r.now.turns) $
    calls_at ! (framed 𝓤 𝓛.H 𝓜 𝓣) (Asks 𝓛 𝓜.mem 𝓡.returns) (refuses 𝓤 𝓛 𝓜 𝓡 (code.calls-failing_alloc::Turns::refuses 𝓡.env wired)) asks (and_then ! (get ! refl) (no_more !)) (λ v.
    use1 𝓛 (later (some (λ (b : Bool). ((here ⊛ ‵ ftrue) ⊛ ‵ (bool.own_val b (v ∷ []))) ⊛ some (λ (ws : Unit {0} × Unit {0}). ‵ (fsep ftrue ftrue) ⊛ ‵ ftrue)))) (id⊢ 𝓤 _) $
    await ! tt $ pick ! (λ b. split ! $ split ! $ move ! (1 ∷ []) $ feq_l ! (λ e. split ! $ move ! (1 ∷ 2 ∷ []) $ drop ! $ drop ! $
    lands_as ! (ap only e) refl (tt, tt) $
    move ! (0 ∷ 2 ∷ []) $ first ! $ branches ! (get ! refl)
    (λ _. move ! (2 ∷ []) $ drop ! $
    sets ! (agg ! (no_more !)) refl (tt, tt) $
    sets ! (agg ! (and_then ! (lit ! tt) (and_then ! (get ! refl) (no_more !)))) refl (Answer-typed false 0 0) $
    returns_within ! (W.post y) refl (look_at ! 0 refl) $ free_all ! refl $ refused)
    (λ _. skips ! $ exec ! 𝓣.C 𝓣.Λ En (rest_of (rest_of (rest_of body))) (at_ret En (W.post y)) $
    sets ! (addr ! (through ! refl (fld ! refl (stop !)))) refl (tt, tt) $
    move ! (2 ∷ 0 ∷ []) $ use2 𝓛 (raw ((Takes Z 𝓛 𝓜.mem 𝓡.returns).pre takes)) (Takes-goes Z 𝓛 𝓜.mem 𝓡.returns κ q (heap_at Z r.ref_ptr) h (⊑_trans κ κs.1.0 A.lives bounds.0 le) n al τ said.0 said.1 fn fa) $
    calls_at ! (framed 𝓤 𝓛.H 𝓜 𝓣) (Takes Z 𝓛 𝓜.mem 𝓡.returns) (met.allocate drops) takes (and_then ! (get ! refl) (and_then ! (get ! refl) (and_then ! (get ! refl) (no_more !)))) (λ v.
    use1 𝓛 (later (raw (Answered Z 𝓛 𝓜.mem 𝓡.returns h τ v) ⊛ here)) (Takes-gives Z 𝓛 𝓜.mem 𝓡.returns κ q (heap_at Z r.ref_ptr) h n al τ v) $ await ! tt $ split ! $
    answers Z ! 𝓜.mem 𝓡.returns h τ v
    (λ b o e. lands_as ! e refl (Answer-typed true b o) $
    returns ! (look_at ! 0 refl) $ free_all ! refl $ fjoin ! $
    move ! (1 ∷ 2 ∷ []) $ join ! $ use0 𝓛 (‵ (Answer.own_val (Ok (block_ptr b o)) (answer_val true b o ∷ []))) (Answer-Ok 𝓛 b o) $
    nothing ! $ nothing ! $ fjoin ! $ nothing ! $ fjoin ! $ nothing ! $ fjoin ! $ move ! (2 ∷ 0 ∷ 1 ∷ 3 ∷ []) $
    by ! (leaves 𝓛 E (stays Z) c y (answer_val true b o) (Ok (block_ptr b o)) (tt, (tt, (tt, tt))) (tt, (tt, (tt, tt)))))
    (λ e. lands_as ! e refl (Answer-typed false 0 0) $ returns ! (look_at ! 0 refl) $ free_all ! refl $ refused))))))))))
