-- Options behind operations allow what those before allow, so what may be written may be written then.
use Rattle.std.proofs.Common.{ℕ, List, [], sym}
use Rattle.std.proofs.lemmas.List.{append-nil}
use Rattle.jsonc_text.specs.Lexemes.{LexemeKind}
use Rattle.jsonc_text.specs.Numbers.{NumberLit}
use Rattle.jsonc_text.specs.Options.{Options, AllowsMore, AgreeOnLexemes}
use Rattle.jsonc_text.specs.Plain.{Plain, Items, no_items, item, Members, no_members, member}
use Rattle.jsonc_text.proofs.SameOptions.{lexeme_same}
use Rattle.jsonc_edit.proofs.lemmas.commas.WiderShapes.{as_allowed, with_trailing}
use Rattle.jsonc_edit.specs.Writing.{IsOfNumbers, AreOfNumbers, AreNamedOfNumbers}
use Rattle.jsonc_text.specs.declared.edit.TrailingCommaMode.TheVariants.{Never, IfMultiline}
use Rattle.jsonc_run.specs.Edits.{PlainEdit, Allows, replace, set_root, replace_property, set_value, insert_element, append_element, insert_property, append_property, insert_comment}
use Rattle.jsonc_run.specs.texts.Edits.{Operation, set_commas, options_behind}

number_wider : {o p : Options} → AgreeOnLexemes o p → (s : List ℕ) → NumberLit o s → NumberLit p s
number_wider a s n = (lexeme_same a (LexemeKind.number s) s [] (sym (append-nil s), n)).1

module _ {o p : Options} (m : AllowsMore o p) where
  mutual
    numbers_wider : (v : Plain) → IsOfNumbers o v → IsOfNumbers p v
    numbers_wider Plain.null h = h
    numbers_wider (Plain.boolean b) h = h
    numbers_wider (Plain.number s) h = number_wider m.lexemes s h
    numbers_wider (Plain.string s) h = h
    numbers_wider (Plain.array vs) h = items_wider vs h
    numbers_wider (Plain.object ms) h = members_wider ms h

    items_wider : (vs : Items) → AreOfNumbers o vs → AreOfNumbers p vs
    items_wider no_items h = h
    items_wider (item v vs) (h, k) = (numbers_wider v h, items_wider vs k)

    members_wider : (ms : Members) → AreNamedOfNumbers o ms → AreNamedOfNumbers p ms
    members_wider no_members h = h
    members_wider (member name v ms) (h, k) = (numbers_wider v h, members_wider ms k)

  fits_wider : (e : PlainEdit) → Allows o e → Allows p e
  fits_wider (replace path v) fit = numbers_wider v fit
  fits_wider (set_root v) fit = numbers_wider v fit
  fits_wider (replace_property path name v) fit = numbers_wider v fit
  fits_wider (set_value path v) fit = numbers_wider v fit
  fits_wider (insert_element path i v) fit = numbers_wider v fit
  fits_wider (append_element path v) fit = numbers_wider v fit
  fits_wider (insert_property path i name v) fit = numbers_wider v fit
  fits_wider (append_property path name v) fit = numbers_wider v fit
  fits_wider (insert_comment path place text) fit = m.comments fit
  fits_wider e fit = tt

by_wider : (o : Options) (op : Operation) → AllowsMore o (options_behind o op)
by_wider o (set_commas whole path Never) = as_allowed o
by_wider o (set_commas whole path IfMultiline) = with_trailing o
by_wider o op = as_allowed o

-- what the options before an operation allow those behind it do
pub fits_behind : (o : Options) (op : Operation) (e : PlainEdit) → Allows o e → Allows (options_behind o op) e
fits_behind o op e fit = fits_wider (by_wider o op) e fit
