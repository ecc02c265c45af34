-- What was put where the last of equal names leads on is read there by whoever collapses equal names.
use Rattle.std.proofs.Common.{ℕ, ◌≡◌, ◌∙◌, sym, ap, subst, refl, Bool, true, false, List, [], ◌∷◌, Option, option_map, Some, None, Result, Ok, Err, IfOk}
use Rattle.jsonc_text.specs.Documents.{Document}
use Rattle.jsonc_text.specs.Grammar.{IsDocument}
use Rattle.jsonc_text.specs.Options.{Options}
use Rattle.jsonc_text.specs.Plain.{Plain, collapse}
use Rattle.jsonc_text.specs.declared.edit.Over.{Over}
use Rattle.jsonc_text.proofs.UniqueValues.{document_unique}
use Rattle.jsonc_tree.specs.OrderedTree.{ordered_tree}
use Rattle.jsonc_tree.specs.Tree.{Node}
use Rattle.jsonc_sound.specs.Shape.{printed_text}
use Rattle.jsonc_edit.proofs.SoundValues.{prints_value}
use Rattle.jsonc_run.specs.Edits.{PlainEdit}
use Rattle.jsonc_run.specs.Named as asked
use Rattle.jsonc_run.specs.Named.{Asks}
use Rattle.jsonc_run.specs.texts.Edits.{Operation, Run, none_made, one_made, options_behind}
use Rattle.jsonc_parser.specs.paths.Calls.{IsReadThere, PutsWhatShown}
use Rattle.jsonc_parser.specs.paths.Positions.{IsDroppedBy, removes, IsPutBy, sets_root, sets_first, sets_value, appends, replaces}
use Rattle.jsonc_parser.specs.paths.Settings.{At}
use Rattle.jsonc_parser.specs.declared.paths.which.Which.{Which}
use Rattle.jsonc_parser.specs.declared.paths.which.Which.TheVariants.{Last}

-- what puts a value leaves the options
root_options : (o : Options) (w : Option Plain) (v : Plain) → options_behind o (asked.sets_root w v) ≡ o
root_options o None v = refl
root_options o (Some x) v = refl

pub put_options : (o : Options) {which : Which} {v : Plain} {over : Over} {w : Option Plain} {names : List (List ℕ)} {e : PlainEdit} (op : Operation) → IsPutBy which v over w names e → Asks w e op
    → options_behind o op ≡ o
put_options o {v = v} op (sets_root {w = w}) is = ap (options_behind o) is ∙ root_options o w v
put_options o op sets_first is = ap (options_behind o) is
put_options o op (sets_value l) (there, is) = ap (options_behind o) is
put_options o op (appends front rest l lacks) (ms, i, stands, far, is) = ap (options_behind o) is
put_options o op (replaces front rest l non how) (there, is) = ap (options_behind o) is

pub drop_options : (o : Options) {w : Option Plain} {names : List (List ℕ)} {e : PlainEdit} (op : Operation) → IsDroppedBy w names e → Asks w e op → options_behind o op ≡ o
drop_options o op (removes l) (there, is) = ap (options_behind o) is

-- a list without edits leads nowhere, and one of one edit to a document with the options after it
nowhere : {d e : Document} {ops : List Operation} → Run d ops e → ops ≡ [] → d ≡ e
nowhere (none_made one) is = refl
nowhere (one_made {op = op} {ops = ops} one same makes rest) is = cc

pub one_led : {d e : Document} {op : Operation} {ops : List Operation} → Run d (op ∷ ops) e → ops ≡ [] → e.options ≡ options_behind d.options op
one_led (one_made one same makes rest) is = ap (λ f. f.options) (sym (nowhere rest is)) ∙ same

read_back : (v : Plain) (over : Over) (names : List (List ℕ)) (old new : List Node) (done : Bool) → PutsWhatShown Last v over names old new done → IsReadThere v names old new done
read_back v over names old new true puts = λ d shown numbers w text.
    (let put = puts d shown in
    let made = put.4 numbers in
    let e : Document = made.0 in
    let options : e.options ≡ d.options = one_led made.2.edited refl ∙ put_options d.options made.2.op put.2 made.2.asked in
    let says : IsDocument e.options (printed_text (ordered_tree new 0)) e.value = prints_value e.options (ordered_tree new 0) e.value made.1.sound made.1.value in
    let same : e.value ≡ w = document_unique d.options (printed_text (ordered_tree new 0)) e.value w (subst (λ o. IsDocument o (printed_text (ordered_tree new 0)) e.value) options says) text in
    subst (λ x. At (option_map collapse x) names (collapse v)) same made.2.there)
read_back v over names old new false puts = tt

pub read_result : {E : Type 0} (v : Plain) (over : Over) (names : List (List ℕ)) (old new : List Node) (r : Result Bool E) → IfOk r (PutsWhatShown Last v over names old new) → IfOk r (IsReadThere v names old new)
read_result v over names old new (Ok done) puts = read_back v over names old new done puts
read_result v over names old new (Err e) puts = tt
