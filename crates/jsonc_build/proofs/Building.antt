-- Nodes that are added to a container, and what they are made of.
use Rattle.std.proofs.Common.{ℕ, ◌+◌, ◌-◌, ◌<◌, ◌≡◌, ◌∙◌, sym, ap, subst, refl, List, [], ◌∷◌, ◌++◌, length, arith, IsCharBoundary, IsTrue, Result, Ok, Err, OnOk, IfOk}
use Rattle.std.proofs.lemmas.List.{append_assoc, append-nil}
use Rattle.std.specs.Rc.{rc_str_bytes}
use Rattle.jsonc_text.specs.declared.common.Range.{Range}
use Rattle.jsonc_text.specs.Text.{Spans}
use Rattle.jsonc_tree.specs.Changes.{Pushes}
use Rattle.jsonc_tree.specs.Content.{Content, is_container, array, object, property, token}
use Rattle.jsonc_tree.specs.OrderedTree.{OrderedTree, none, more, followed_by}
use Rattle.jsonc_tree.specs.Tree.{Node, is_container_at}
use Rattle.jsonc_tree.specs.Growing.{IsGrowing, container_of, nodes_so_far}
use Rattle.jsonc_tree.specs.declared.growing.Growing.{Growing}
use Rattle.jsonc_walk.specs.Located.{Between, Located, LocatedName, One, array_at, object_at, range_at, LocatedMember, items_of, members_of}
use Rattle.jsonc_walk.specs.Handed.{Source, Covers, IsBehind, at_place, behind_mark}
use Rattle.jsonc_sound.specs.Filling.{is_separator}
use Rattle.jsonc_build.specs.declared.maker.DocumentMaker.{DocumentMaker}
use Rattle.jsonc_build.specs.Growth.{Grows}
use Rattle.jsonc_build.specs.Laid.{FillsBetween, FillsGap, ItemsLaid, MembersLaid, Laid, NameLaid, PropertyLaid, a_property, an_element, array_node, bracketed, name_and_value, no_element, no_property, object_node}
use Rattle.jsonc_build.specs.Making.{container_in, source_in, nodes_in, Adds, Closes, Holds, HoldsElements, HoldsProperties, IsAt, Names, Opens, Passes, Puts, PutsLeaf, Stays}
use Rattle.jsonc_build.proofs.AddedChildren.{grows_none, grows_append, grows_below, grows_leaf, container_kept}
use Rattle.jsonc_build.proofs.FilledGaps.{fills_join, fills_none, items_behind, leads_further, leads_start, members_behind}
use Rattle.jsonc_build.proofs.Rows.{followed_assoc}

-- the leaves before a node, the node, and the row below it
put_grown : {old filled pushed new : List Node} {c : ℕ} {fill row : OrderedTree} {content : Content} → c < length old → Grows old filled c fill → Pushes filled pushed c content → Grows pushed new (length filled) row → Grows old new c (followed_by fill (more content row none))
put_grown there filled push grown = grows_append there filled (grows_below (omega (arith, there, filled.len)) push grown)

pub pushed_there : {a b : List Node} {c : ℕ} {content : Content} (n : ℕ) → n ≡ length a → Pushes a b c content → n < length b
pushed_there n e push = omega (arith, push.len, e)

pub pushed_container : {a b : List Node} {c : ℕ} {content : Content} (n : ℕ) → n ≡ length a → Pushes a b c content → IsTrue (is_container content) → IsTrue (is_container_at b n)
pushed_container {b = b} n e push h = ap (is_container_at b) e ∙ ap is_container push.last ∙ h

-- one more node after a row of leaves, and more after it
regroup : (row fill : OrderedTree) (content : Content) (below rest : OrderedTree) → followed_by row (followed_by fill (more content below rest)) ≡ followed_by (followed_by row (followed_by fill (more content below none))) rest
regroup row fill content below rest = ap (followed_by row) (sym (followed_assoc fill (more content below none) rest)) ∙ sym (followed_assoc row (followed_by fill (more content below none)) rest)

-- more after one more
once_more : {X : Type 0} (xs : List X) (x : X) (ys : List X) → xs ++ x ∷ ys ≡ (xs ++ x ∷ []) ++ ys
once_more xs x ys = sym (append_assoc xs (x ∷ []) ys)

module _ {A : Type 0} where
  pub stays_on : (a b d : DocumentMaker A) → Stays a b → Stays b d → Stays a d
  stays_on a b d h k = record { source = k.source ∙ h.source; whole = k.whole; before = h.before; growing = k.growing }

  pub text_same : (a b : DocumentMaker A) → Stays a b → b.text.now ≡ a.text.now
  text_same a b h = ap (λ s. s.bytes) h.source

  -- the tree alone has changed
  mid_stays : (old mid : DocumentMaker A) (i : ℕ) (tree : Growing A) → IsAt old i → mid ≡ record old { tree = mid.tree } → IsGrowing tree → (place : ℕ) → Stays old (record mid { tree = tree; place = place })
  mid_stays old mid i tree at rest growing place = record {
    source = ap source_in rest;
    whole = subst (λ m. rc_str_bytes m.whole ≡ m.text.now) (sym rest) at.whole;
    before = at.growing;
    growing = growing;
  }

  pub leaf_put : (old mid : DocumentMaker A) (r : Range) (i n : ℕ) (content : Content) → IsAt old i → mid ≡ record old { tree = mid.tree } → container_in mid ≡ container_in old → IsGrowing mid.tree
      → Puts (nodes_in old) (nodes_in mid) (container_in old) old.text.now old.place r.start content n → PutsLeaf old (record mid { place = r.end }) r content
  leaf_put old mid r i n content at rest same growing h = record {
    stays = mid_stays old mid i mid.tree at rest growing r.end;
    same = same;
    place = refl;
    fill = h.fill;
    grows = put_grown at.growing.in_tree h.grows h.pushes (grows_none (nodes_in mid) (length h.filled));
    fills = h.fills;
  }

  abbrev opens_put : (old mid new : DocumentMaker A) (start n : ℕ) (content : Content) → Stays old new → Puts (nodes_in old) (nodes_in mid) (container_in old) old.text.now old.place start content n → Opens old new start content
  opens_put old mid new start n content stays h = record { stays = stays; filled = h.filled; pushed = nodes_in mid; fill = h.fill; grows = h.grows; fills = h.fills; pushes = h.pushes }

  -- a new node in a container that has just been entered
  entered : (mid : DocumentMaker A) (at_node after : Growing A) (n : ℕ) (content : Content) → nodes_so_far at_node ≡ nodes_in mid → container_of at_node ≡ n → container_of after ≡ container_of at_node → Pushes (nodes_so_far at_node) (nodes_so_far after) (container_of at_node) content
      → Pushes (nodes_in mid) (nodes_so_far after) (container_of after) content
  entered mid at_node after n content nodes is same push =
      subst (λ ns. Pushes ns (nodes_so_far after) (container_of after) content) nodes (subst (λ c. Pushes (nodes_so_far at_node) (nodes_so_far after) c content) (sym same) push)

  pub container_opened : (old mid : DocumentMaker A) (at_node after : Growing A) (start i n : ℕ) (content : Content) (bracket : ℕ) → IsAt old i → mid ≡ record old { tree = mid.tree }
      → Puts (nodes_in old) (nodes_in mid) (container_in old) old.text.now old.place start content n
      → nodes_so_far at_node ≡ nodes_in mid → container_of at_node ≡ n → container_of after ≡ container_of at_node → Pushes (nodes_so_far at_node) (nodes_so_far after) (container_of at_node) (token bracket) → IsGrowing after
      → (around : ℕ) → around ≡ container_in old → Holds old (record mid { tree = after; place = start + 1 }) around start content bracket none
  container_opened old mid at_node after start i n content bracket at rest h nodes is same push growing around outer = record {
    opens = opens_put old mid _ start n content (mid_stays old mid i after at rest growing (start + 1)) h;
    is = outer;
    same = same ∙ is ∙ h.number;
    opened = nodes_so_far after;
    bracketed = entered mid at_node after n (token bracket) nodes is same push;
    has = grows_none (nodes_so_far after) (container_of after);
  }

  pub name_opened : (old mid : DocumentMaker A) (at_node after : Growing A) (r : Range) (i n : ℕ) (name : Content) (x : List ℕ) → IsAt old i → mid ≡ record old { tree = mid.tree }
      → Puts (nodes_in old) (nodes_in mid) (container_in old) old.text.now old.place r.start property n
      → nodes_so_far at_node ≡ nodes_in mid → container_of at_node ≡ n → container_of after ≡ container_of at_node → Pushes (nodes_so_far at_node) (nodes_so_far after) (container_of at_node) name → IsGrowing after
      → Spans old.text.now r.start r.end → NameLaid old.text.now r name
      → (around : ℕ) → around ≡ container_in old → Names old (record mid { tree = after; place = r.end }) around (record { range = r; name = x })
  name_opened old mid at_node after r i n name x at rest h nodes is same push growing spans laid around outer = record {
    opens = opens_put old mid _ r.start n property (mid_stays old mid i after at rest growing r.end) h;
    is = outer;
    same = same ∙ is ∙ h.number;
    name = name;
    behind = none;
    leads = leads_start refl;
    has = grows_leaf (pushed_there (container_of after) (same ∙ is ∙ h.number) h.pushes) (entered mid at_node after n name nodes is same push);
    spans = spans;
    laid = laid;
  }

  pub end_put : (old mid : DocumentMaker A) (tree : Growing A) (around : ℕ) (r : Range) (i n bracket : ℕ) → IsAt old i → mid ≡ record old { tree = mid.tree }
      → Puts (nodes_in old) (nodes_in mid) (container_in old) old.text.now old.place (r.end - 1) (token bracket) n
      → nodes_so_far tree ≡ nodes_in mid → container_of tree ≡ around → IsGrowing tree
      → Closes old (record mid { tree = tree; place = r.end }) around r bracket
  end_put old mid tree around r i n bracket at rest h nodes is growing = record {
    stays = mid_stays old mid i tree at rest growing r.end;
    same = is;
    place = refl;
    filled = h.filled;
    fill = h.fill;
    grows = h.grows;
    fills = h.fills;
    pushes = subst (λ ns. Pushes h.filled ns (container_in old) (token bracket)) (sym nodes) h.pushes;
  }

  -- what was there is there still, a container too
  pub still_there : (old mid : DocumentMaker A) (start i n a : ℕ) (content : Content) → IsAt old i → Puts (nodes_in old) (nodes_in mid) (container_in old) old.text.now old.place start content n → a < length (nodes_in old) → a < length (nodes_in mid)
  still_there old mid start i n a content at h there = omega (arith, there, h.grows.len, h.pushes.len)

  pub still_container : (old mid : DocumentMaker A) (start i n a : ℕ) (content : Content) → IsAt old i → Puts (nodes_in old) (nodes_in mid) (container_in old) old.text.now old.place start content n → a < length (nodes_in old) → IsTrue (is_container_at (nodes_in old) a)
      → IsTrue (is_container_at (nodes_in mid) a)
  still_container old mid start i n a content at h there holds = ap is_container (h.pushes.contents a (omega (arith, there, h.grows.len)) ∙ h.grows.contents a there) ∙ holds

  pub leaf_added : (old new : DocumentMaker A) (x : Located) (content : Content) → PutsLeaf old new (range_at x) content → Laid old.text.now x content none → Adds old new x
  leaf_added old new x content h laid = record { stays = h.stays; same = h.same; place = h.place; fill = h.fill; content = content; below = none; grows = h.grows; fills = h.fills; laid = laid }

  -- a node that is put where the tree ends
  pub put_here : (old : DocumentMaker A) (new : List Node) (start n : ℕ) (content : Content) → IsAt old start → IsCharBoundary old.text.now start → Pushes (nodes_in old) new (container_in old) content → n ≡ length (nodes_in old)
      → Puts (nodes_in old) new (container_in old) old.text.now old.place start content n
  put_here old new start n content at boundary pushes number = record {
    filled = nodes_in old;
    fill = none;
    grows = grows_none (nodes_in old) (container_in old);
    fills = fills_none old.text.now old.place start at.place boundary;
    pushes = pushes;
    number = number;
  }

  -- what an open container has grown
  within : (old new : DocumentMaker A) (around start : ℕ) (content : Content) (bracket : ℕ) (row : OrderedTree) (h : Holds old new around start content bracket row) → (container_in new) < length h.opened
  within old new around start content bracket row h = omega (arith, h.same, h.opens.pushes.len, h.bracketed.len)

  pub holds_grows : (old new : DocumentMaker A) (around start : ℕ) (content : Content) (bracket : ℕ) (row : OrderedTree) (h : Holds old new around start content bracket row)
      → Grows (nodes_in old) (nodes_in new) (container_in old) (followed_by h.opens.fill (more content (more (token bracket) none row) none))
  holds_grows old new around start content bracket row h =
      let first : (container_in new) < length h.opens.pushed = pushed_there (container_in new) h.same h.opens.pushes in
      put_grown h.opens.stays.before.in_tree h.opens.grows h.opens.pushes (subst (λ n. Grows h.opens.pushed (nodes_in new) n (more (token bracket) none row)) h.same (grows_append first (grows_leaf first h.bracketed) h.has))

  -- the container around it is there still
  pub around_there : (old new : DocumentMaker A) (around start : ℕ) (content : Content) (bracket : ℕ) (row : OrderedTree) → Holds old new around start content bracket row → around < length (nodes_in new)
  around_there old new around start content bracket row h = omega (arith, h.is, h.opens.stays.before.in_tree, (holds_grows old new around start content bracket row h).len)

  pub around_container : (old new : DocumentMaker A) (around start : ℕ) (content : Content) (bracket : ℕ) (row : OrderedTree) → Holds old new around start content bracket row → IsTrue (is_container_at (nodes_in new) around)
  around_container old new around start content bracket row h =
      subst (λ n. IsTrue (is_container_at (nodes_in new) n)) (sym h.is) (container_kept h.opens.stays.before.in_tree h.opens.stays.before.holds (holds_grows old new around start content bracket row h))

  -- a container that is closed
  closed_grows : (s old new : DocumentMaker A) (around start : ℕ) (r : Range) (content : Content) (opening closing : ℕ) (row : OrderedTree) (h : Holds s old around start content opening row) (k : Closes old new around r closing)
      → Grows (nodes_in s) (nodes_in new) (container_in s) (followed_by h.opens.fill (more content (bracketed opening (followed_by row k.fill) closing) none))
  closed_grows s old new around start r content opening closing row h k =
      let n = (container_in old) in
      let first : n < length h.opens.pushed = pushed_there n h.same h.opens.pushes in
      let second : n < length h.opened = within s old around start content opening row h in
      let third : n < length k.filled = omega (arith, second, h.has.len, k.grows.len) in
      put_grown h.opens.stays.before.in_tree h.opens.grows h.opens.pushes
      (subst (λ m. Grows h.opens.pushed (nodes_in new) m (bracketed opening (followed_by row k.fill) closing)) h.same (grows_append first (grows_leaf first h.bracketed) (grows_append second (grows_append second h.has k.grows) (grows_leaf third k.pushes))))

  closed_stays : (s old new : DocumentMaker A) (around start : ℕ) (r : Range) (content : Content) (opening closing : ℕ) (row : OrderedTree) → Holds s old around start content opening row → Closes old new around r closing → Stays s new
  closed_stays s old new around start r content opening closing row h k = stays_on s old new h.opens.stays k.stays

  pub array_closed : (s old new : DocumentMaker A) (around : ℕ) (r : Range) (xs : List Located) → HoldsElements s old around r.start xs → Closes old new around r 0x5D → Adds s new (array_at r (items_of xs))
  array_closed s old new around r xs (row, h, all) k = record {
    stays = closed_stays s old new around r.start r array 0x5B 0x5D row h k;
    same = k.same ∙ h.is;
    place = k.place;
    fill = h.opens.fill;
    content = array;
    below = bracketed 0x5B (followed_by row k.fill) 0x5D;
    grows = closed_grows s old new around r.start r array 0x5B 0x5D row h k;
    fills = h.opens.fills;
    laid = array_node (subst (λ ys. ItemsLaid s.text.now (r.start + 1) (items_of ys) (r.end - 1) (followed_by row k.fill)) (append-nil xs)
        (all [] (r.end - 1) k.fill (no_element (subst (λ t. FillsBetween t old.place (r.end - 1) k.fill) (text_same s old h.opens.stays) k.fills))));
  }

  pub object_closed : (s old new : DocumentMaker A) (around : ℕ) (r : Range) (ms : List LocatedMember) → HoldsProperties s old around r.start ms → Closes old new around r 0x7D → Adds s new (object_at r (members_of ms))
  object_closed s old new around r ms (row, h, all) k = record {
    stays = closed_stays s old new around r.start r object 0x7B 0x7D row h k;
    same = k.same ∙ h.is;
    place = k.place;
    fill = h.opens.fill;
    content = object;
    below = bracketed 0x7B (followed_by row k.fill) 0x7D;
    grows = closed_grows s old new around r.start r object 0x7B 0x7D row h k;
    fills = h.opens.fills;
    laid = object_node (subst (λ ys. MembersLaid s.text.now (r.start + 1) (members_of ys) (r.end - 1) (followed_by row k.fill)) (append-nil ms)
        (all [] (r.end - 1) k.fill (no_property (subst (λ t. FillsBetween t old.place (r.end - 1) k.fill) (text_same s old h.opens.stays) k.fills))));
  }

  -- a container that holds one more
  holds_on : (s m new : DocumentMaker A) (around start : ℕ) (content : Content) (bracket : ℕ) (row one : OrderedTree) (h : Holds s m around start content bracket row)
      → Stays m new → (container_in new) ≡ (container_in m) → Grows (nodes_in m) (nodes_in new) (container_in m) one → Holds s new around start content bracket (followed_by row one)
  holds_on s m new around start content bracket row one h stays same grows = record {
    opens = record {
      stays = stays_on s m new h.opens.stays stays;
      filled = h.opens.filled;
      pushed = h.opens.pushed;
      fill = h.opens.fill;
      grows = h.opens.grows;
      fills = h.opens.fills;
      pushes = h.opens.pushes;
    };
    is = h.is;
    same = same ∙ h.same;
    opened = h.opened;
    bracketed = subst (λ n. Pushes h.opens.pushed h.opened n (token bracket)) (sym same) h.bracketed;
    has = subst (λ n. Grows h.opened (nodes_in new) n (followed_by row one)) (sym same) (grows_append (within s m around start content bracket row h) h.has grows);
  }

  pub element_held : (s m new : DocumentMaker A) (around i : ℕ) (xs : List Located) (x : Located) → HoldsElements s m around i xs → Adds m new x → HoldsElements s new around i (xs ++ x ∷ [])
  element_held s m new around i xs x (row, h, all) k =
      let text = s.text.now in
      let same : m.text.now ≡ text = text_same s m h.opens.stays in
      let fills = subst (λ t. FillsBetween t m.place (range_at x).start k.fill) same k.fills in
      let laid = subst (λ t. Laid t x k.content k.below) same k.laid in (
        followed_by row (followed_by k.fill (more k.content k.below none)),
        holds_on s m new around i array 0x5B row _ h k.stays k.same k.grows,
        λ ys j rest after.
            subst (λ zs. ItemsLaid text (i + 1) (items_of zs) j (followed_by (followed_by row (followed_by k.fill (more k.content k.below none))) rest)) (once_more xs x ys)
            (subst (ItemsLaid text (i + 1) (items_of (xs ++ x ∷ ys)) j) (regroup row k.fill k.content k.below rest)
            (all (x ∷ ys) j (followed_by k.fill (more k.content k.below rest)) (an_element fills laid (subst (λ p. ItemsLaid text p (items_of ys) j rest) k.place after)))),
      )

  -- a property that has its name and its value
  property_grows : (m k t : DocumentMaker A) (around : ℕ) (n : LocatedName) (x : Located) (h : Names m k around n) (v : Adds k t x)
      → Grows (nodes_in m) (nodes_in t) (container_in m) (followed_by h.opens.fill (more property (more h.name none (followed_by h.behind (followed_by v.fill (more v.content v.below none)))) none))
  property_grows m k t around n x h v =
      let there : (container_in k) < length h.opens.pushed = pushed_there (container_in k) h.same h.opens.pushes in
      put_grown h.opens.stays.before.in_tree h.opens.grows h.opens.pushes (subst (λ c. Grows h.opens.pushed (nodes_in t) c (more h.name none (followed_by h.behind (followed_by v.fill (more v.content v.below none))))) h.same (grows_append there h.has v.grows))

  pub property_there : (m k t : DocumentMaker A) (around : ℕ) (n : LocatedName) (x : Located) → Names m k around n → Adds k t x → around < length (nodes_in t)
  property_there m k t around n x h v = omega (arith, h.is, h.opens.stays.before.in_tree, (property_grows m k t around n x h v).len)

  pub property_container : (m k t : DocumentMaker A) (around : ℕ) (n : LocatedName) (x : Located) → Names m k around n → Adds k t x → IsTrue (is_container_at (nodes_in t) around)
  property_container m k t around n x h v = subst (λ c. IsTrue (is_container_at (nodes_in t) c)) (sym h.is) (container_kept h.opens.stays.before.in_tree h.opens.stays.before.holds (property_grows m k t around n x h v))

  pub property_held : (s m k t : DocumentMaker A) (tree : Growing A) (outer around i : ℕ) (ms : List LocatedMember) (n : LocatedName) (x : Located) (r : Range) → HoldsProperties s m outer i ms → Names m k around n → Adds k t x → Covers r n x
      → nodes_so_far tree ≡ nodes_in t → container_of tree ≡ around → IsGrowing tree
      → HoldsProperties s (record t { tree = tree }) outer i (ms ++ record { range = r; name = n; value = x } ∷ [])
  property_held s m k t tree outer around i ms n x r (row, h, all) named v covers nodes is growing =
      let text = s.text.now in
      let to_m : m.text.now ≡ text = text_same s m h.opens.stays in
      let to_k : k.text.now ≡ text = text_same m k named.opens.stays ∙ to_m in
      let fill = named.opens.fill in
      let below = more named.name none (followed_by named.behind (followed_by v.fill (more v.content v.below none))) in
      let stays = stays_on m k t named.opens.stays v.stays in
      let fills = subst (λ p. FillsBetween text m.place p fill) (sym covers.starts) (subst (λ t. FillsBetween t m.place n.range.start fill) to_m named.opens.fills) in
      let spans = subst (λ t. Spans t n.range.start n.range.end) to_m named.spans in
      let name = subst (λ t. NameLaid t n.range named.name) to_m named.laid in
      let between = subst (λ t. FillsBetween t n.range.end (range_at x).start (followed_by named.behind v.fill)) to_m (named.leads (range_at x).start v.fill (subst (λ t. FillsBetween t k.place (range_at x).start v.fill) (text_same m k named.opens.stays) v.fills)) in
      let laid = subst (λ t. Laid t x v.content v.below) to_k v.laid in
      let property_laid = subst (λ u. PropertyLaid text n x (more named.name none u)) (followed_assoc named.behind v.fill (more v.content v.below none)) (name_and_value spans name between laid) in (
        followed_by row (followed_by fill (more property below none)),
        holds_on s m (record t { tree = tree }) outer i object 0x7B row (followed_by fill (more property below none)) h
            (record { source = stays.source; whole = stays.whole; before = stays.before; growing = growing }) (is ∙ named.is)
            (subst (λ ns. Grows (nodes_in m) ns (container_in m) (followed_by fill (more property below none))) (sym nodes) (property_grows m k t around n x named v)),
        λ ys j rest after.
            subst (λ zs. MembersLaid text (i + 1) (members_of zs) j (followed_by (followed_by row (followed_by fill (more property below none))) rest)) (once_more ms (record { range = r; name = n; value = x }) ys)
            (subst (MembersLaid text (i + 1) (members_of (ms ++ record { range = r; name = n; value = x } ∷ ys)) j) (regroup row fill property below rest)
            (all (record { range = r; name = n; value = x } ∷ ys) j (followed_by fill (more property below rest)) (a_property fills property_laid (subst (λ p. MembersLaid text p (members_of ys) j rest) (v.place ∙ sym covers.ends) after)))),
      )

  -- a maker behind a mark or nothing
  pub at_before : {s : Source} {j : ℕ} (m : DocumentMaker A) → IsBehind s (IsAt m) j → (i : ℕ) × IsAt m i
  at_before m (at_place {i = i} at) = (i, at)
  at_before m (behind_mark {i = i} mark at stands) = (i, at)

  pub mark_before : {s : Source} {j : ℕ} (m : DocumentMaker A) → IsBehind s (IsAt m) j → (m.place ≡ j → ⊥) → (c : ℕ) × IsTrue (is_separator c) × Between s.bytes (One c) m.place j
  mark_before m (at_place at) apart = absurd (apart at.place)
  mark_before {s} {j} m (behind_mark {c = c} mark at stands) apart = (c, mark, subst (λ k. Between s.bytes (One c) k j) (sym at.place) stands)

  -- the leaves of a gap, behind a mark or nothing
  pub gap_passed : (old mid : DocumentMaker A) (tree : Growing A) (from end i : ℕ) → IsAt old i → mid ≡ record old { tree = mid.tree } → container_in mid ≡ container_in old → IsGrowing tree → container_of tree ≡ container_in mid
      → FillsGap (nodes_in old) (nodes_in mid) (container_in old) old.text.now old.place from → FillsGap (nodes_in mid) (nodes_so_far tree) (container_in mid) mid.text.now from end → Passes old (record mid { tree = tree; place = end })
  gap_passed old mid tree from end i at rest same growing held (mark, marked, first) (row, grown, then) =
      let text : mid.text.now ≡ old.text.now = ap (λ m. m.text.now) rest in record {
        stays = mid_stays old mid i tree at rest growing end;
        same = held ∙ same;
        fill = followed_by mark row;
        grows = grows_append at.growing.in_tree marked (subst (λ c. Grows (nodes_in mid) (nodes_so_far tree) c row) same grown);
        fills = fills_join first (subst (λ t. FillsBetween t from end row) text then);
      }

  -- what is named or held stays so behind a gap
  pub named_behind : (m old new : DocumentMaker A) → Passes old new → (around : ℕ) (n : LocatedName) → Names m old around n → Names m new around n
  named_behind m old new p around n h = record {
    opens = record {
      stays = stays_on m old new h.opens.stays p.stays;
      filled = h.opens.filled;
      pushed = h.opens.pushed;
      fill = h.opens.fill;
      grows = h.opens.grows;
      fills = h.opens.fills;
      pushes = h.opens.pushes;
    };
    is = h.is;
    same = p.same ∙ h.same;
    name = h.name;
    behind = followed_by h.behind p.fill;
    has = subst (λ c. Grows h.opens.pushed (nodes_in new) c (more h.name none (followed_by h.behind p.fill))) (sym p.same) (grows_append (pushed_there (container_in old) h.same h.opens.pushes) h.has p.grows);
    leads = leads_further h.behind h.leads (subst (λ t. FillsBetween t old.place new.place p.fill) (text_same m old h.opens.stays) p.fills);
    spans = h.spans;
    laid = h.laid;
  }

  pub elements_behind : (m old new : DocumentMaker A) → Passes old new → (around i : ℕ) (xs : List Located) → HoldsElements m old around i xs → HoldsElements m new around i xs
  elements_behind m old new p around i xs (row, h, all) =
      let text = m.text.now in
      let fills = subst (λ t. FillsBetween t old.place new.place p.fill) (text_same m old h.opens.stays) p.fills in (
        followed_by row p.fill,
        holds_on m old new around i array 0x5B row p.fill h p.stays p.same p.grows,
        λ ys k rest after. subst (ItemsLaid text (i + 1) (items_of (xs ++ ys)) k) (sym (followed_assoc row p.fill rest)) (all ys k (followed_by p.fill rest) (items_behind fills after)),
      )

  pub properties_behind : (m old new : DocumentMaker A) → Passes old new → (around i : ℕ) (ms : List LocatedMember) → HoldsProperties m old around i ms → HoldsProperties m new around i ms
  properties_behind m old new p around i ms (row, h, all) =
      let text = m.text.now in
      let fills = subst (λ t. FillsBetween t old.place new.place p.fill) (text_same m old h.opens.stays) p.fills in (
        followed_by row p.fill,
        holds_on m old new around i object 0x7B row p.fill h p.stays p.same p.grows,
        λ ns k rest after. subst (MembersLaid text (i + 1) (members_of (ms ++ ns)) k) (sym (followed_assoc row p.fill rest)) (all ns k (followed_by p.fill rest) (members_behind fills after)),
      )

-- what an answer says where the call went well
pub ok_of : {T E P : Type 0} {Q : T → Type 0} (r : Result T E) → (P → (x : T) → Q x) → OnOk r P → IfOk r Q
ok_of (Ok x) f h = f h x
ok_of (Err e) f h = tt

pub ok_both : {T E Q : Type 0} {P R : T → Type 0} (r : Result T E) → ((x : T) → P x → Q → R x) → IfOk r P → OnOk r Q → IfOk r R
ok_both (Ok x) f h k = f x h k
ok_both (Err e) f h k = tt
