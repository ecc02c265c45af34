-- What the leads of a row tell.
use Rattle.std.proofs.Common.{◌≡◌, ℕ, ◌≤◌, Bool, true, false, List, [], ◌∷◌, ◌++◌, All, length, filter, map, take, drop, refl, sym, ap, ◌∙◌, append-nil}
use Rattle.std.specs.Prelude.{if◌then◌else◌}
use Rattle.std.specs.List.{flat_map, list_any}
use Rattle.std.proofs.lemmas.List.{take_all}
use Rattle.jsonc_tree.specs.Content.{Content}
use Rattle.jsonc_tree.specs.Tree.{Node, children_at, content_at}
use Rattle.jsonc_edit.specs.remove.Removed.{has_brackets}
use Rattle.jsonc_edit.specs.multiline.Lines.{between}
use Rattle.jsonc_sort.specs.Above.{above, above_from, all_comments_above, comments_above, lead_read, leads, leads_read}
use Rattle.jsonc_sort.specs.Leads.{comments, first_line, is_comment_at}
use Rattle.jsonc_sort.specs.Parts.{is_newline_at, up_to_spaces}
use Rattle.jsonc_sort.specs.Places.{IsRead, lead_at}
use Rattle.jsonc_sort.specs.declared.above.LeadRead.{LeadRead}
use Rattle.jsonc_sort.specs.declared.places.Places.{Places}

-- comments above an element, in a lead in which a line ends
pub above_counted : (at : ℕ → Content) (lead rest : List ℕ) (first upto n : ℕ) → list_any (is_newline_at at) lead ≡ true → first ≡ first_line at lead → rest ≡ drop first lead → upto ≡ up_to_spaces at rest → n ≡ comments at (take upto rest) → n ≡ comments at (above at lead)
above_counted at lead rest first upto n e f g h k =
    k ∙ ap (λ j. comments at (take j rest)) h ∙ ap (λ l. comments at (take (up_to_spaces at l) l)) (g ∙ ap (λ j. drop j lead) f)
    ∙ ap (λ (b : Bool). comments at (if b then take (up_to_spaces at (drop (first_line at lead) lead)) (drop (first_line at lead) lead) else [])) (sym e)

-- by entries
maps_join : {X Y Z : Type 0} (f : Y → Z) (g : X → Y) (xs : List X) → map (λ x. f (g x)) xs ≡ map f (map g xs)
maps_join f g [] = refl
maps_join f g (x ∷ xs) = ap (λ l. f (g x) ∷ l) (maps_join f g xs)

module _ (at : ℕ → Content) (row : List ℕ) (places : List Places) where
  abbrev told : Places → LeadRead
  told p = lead_read at (lead_at row p)

  -- the leads of so many entries are told
  pub record ToldSoFar (k : ℕ) (found : List LeadRead) : Type 0 where
    pub read : All (IsRead at row) places
    pub leads : map (lead_at row) places ≡ leads at row
    pub are : found ≡ map told (take k places)

  pub told_all : (k : ℕ) (found : List LeadRead) → length places ≤ k → ToldSoFar k found → found ≡ map (lead_read at) (leads at row)
  told_all k found far s =
      s.are ∙ ap (map told) (take_all k places far) ∙ maps_join (lead_read at) (lead_at row) places ∙ ap (map (lead_read at)) s.leads

  -- the comments above so many of them are found
  abbrev found_at : Places → List ℕ
  found_at p = comments_above at (lead_at row p)

  pub record FoundSoFar (k : ℕ) (found : List ℕ) : Type 0 where
    pub read : All (IsRead at row) places
    pub leads : map (lead_at row) places ≡ leads at row
    pub are : found ≡ flat_map found_at (take k places)

  pub found_all : (k : ℕ) (found : List ℕ) → length places ≤ k → FoundSoFar k found → found ≡ flat_map (comments_above at) (leads at row)
  found_all k found far s =
      s.are ∙ ap (flat_map found_at) (take_all k places far) ∙ flats_join places ∙ ap (flat_map (comments_above at)) s.leads
    where
      flats_join : (xs : List Places) → flat_map found_at xs ≡ flat_map (comments_above at) (map (lead_at row) xs)
      flats_join [] = refl
      flats_join (x ∷ xs) = ap (λ l. found_at x ++ l) (flats_join xs)

-- what is above, in a lead in which a line ends
pub above_is : (at : ℕ → Content) (lead rest : List ℕ) (first upto : ℕ) → list_any (is_newline_at at) lead ≡ true → first ≡ first_line at lead → rest ≡ drop first lead → upto ≡ up_to_spaces at rest → take upto rest ≡ above at lead
above_is at lead rest first upto e f g h =
    ap (λ j. take j rest) h ∙ ap (λ l. take (up_to_spaces at l) l) (g ∙ ap (λ j. drop j lead) f)
    ∙ ap (λ (b : Bool). if b then take (up_to_spaces at (drop (first_line at lead) lead)) (drop (first_line at lead) lead) else []) (sym e)

pub above_none : (at : ℕ → Content) (lead found : List ℕ) → list_any (is_newline_at at) lead ≡ false → found ≡ found ++ comments_above at lead
above_none at lead found e = sym (ap (λ (b : Bool). found ++ filter (is_comment_at at) (if b then above_from at (drop (first_line at lead) lead) else [])) e ∙ append-nil found)

-- between the brackets
pub told_inside : (ns : List Node) (c : ℕ) (xs : List ℕ) (found : List LeadRead) → has_brackets ns c ≡ true → xs ≡ between (children_at ns c) → found ≡ map (lead_read (content_at ns)) (leads (content_at ns) xs) → found ≡ leads_read ns c
told_inside ns c xs found b e f =
    f ∙ ap (λ l. map (lead_read (content_at ns)) (leads (content_at ns) l)) e
    ∙ ap (λ (k : Bool). map (lead_read (content_at ns)) (if k then leads (content_at ns) (between (children_at ns c)) else [])) (sym b)

pub told_nothing : (ns : List Node) (c : ℕ) (found : List LeadRead) → has_brackets ns c ≡ false → found ≡ [] → found ≡ leads_read ns c
told_nothing ns c found b e = e ∙ ap (λ (k : Bool). map (lead_read (content_at ns)) (if k then leads (content_at ns) (between (children_at ns c)) else [])) (sym b)

pub found_inside : (ns : List Node) (c : ℕ) (xs : List ℕ) (found : List ℕ) → has_brackets ns c ≡ true → xs ≡ between (children_at ns c) → found ≡ flat_map (comments_above (content_at ns)) (leads (content_at ns) xs) → found ≡ all_comments_above ns c
found_inside ns c xs found b e f =
    f ∙ ap (λ l. flat_map (comments_above (content_at ns)) (leads (content_at ns) l)) e
    ∙ ap (λ (k : Bool). flat_map (comments_above (content_at ns)) (if k then leads (content_at ns) (between (children_at ns c)) else [])) (sym b)

pub found_nothing : (ns : List Node) (c : ℕ) (found : List ℕ) → has_brackets ns c ≡ false → found ≡ [] → found ≡ all_comments_above ns c
found_nothing ns c found b e = e ∙ ap (λ (k : Bool). flat_map (comments_above (content_at ns)) (if k then leads (content_at ns) (between (children_at ns c)) else [])) (sym b)
