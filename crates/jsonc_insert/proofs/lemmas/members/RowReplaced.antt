-- The row that an object has before a property comes in, and the nodes that it has then.
use Rattle.std.proofs.Common.{◌<◌, ℕ, List, Some, length, sym, subst}
use Rattle.jsonc_text.specs.Plain.{Plain}
use Rattle.jsonc_tree.specs.Tree.{Node, IsTree}
use Rattle.jsonc_edit.specs.Put.{Extends}
use Rattle.jsonc_insert.specs.Inserted.{RowMade}
use Rattle.jsonc_insert.specs.members.Opened.{IsBefore, IsOpened}
use Rattle.jsonc_insert.proofs.RowReplaced.{both, trimmed_row, IsRowFor}

pub opened_row : (old lined : List Node) (c : ℕ) (row : List ℕ) → IsOpened old lined c row → IsRowFor old lined c row
opened_row old lined c row o = record { prepared = o.prepared; from = o.from; once = o.once; brackets = o.brackets }

pub row_before : (old lined : List Node) (c : ℕ) (was : List ℕ) → IsBefore old lined c was → IsRowFor old lined c was
row_before old lined c was b = subst (IsRowFor old lined c) (sym b.is) (trimmed_row old lined c b.lines (opened_row old lined c b.lines b.opens))

pub prepared_all : (old lined ready : List Node) → IsTree old → (c : ℕ) → c < length old → (was : List ℕ) → IsBefore old lined c was → Extends lined ready
    → (i : ℕ) (name : List ℕ) (v : Plain) (m : ℕ) (row : List ℕ) → RowMade lined ready c was i (Some name) v m row → Extends old ready
prepared_all old lined ready tree c there was b p i name v m row r = both old lined tree c was (row_before old lined c was b) ready there p
