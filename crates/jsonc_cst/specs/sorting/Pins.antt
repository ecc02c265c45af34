-- Which comments above elements are pinned: how many of each element's stay where they are, as a header, and do not go with it.
use Rattle.std.specs.Prelude.{◌≡◌, ℕ, suc, Bool, List, [], ◌∷◌, drop, map, take, Option, Some, None, if◌then◌else◌}
use Rattle.std.specs.List.{All, filter_map}
use denote.Ref.{Bor}
use denote.Param.Members.{Shared}
use Rattle.jsonc_sort.specs.ordering.Order.{node_in}
use Rattle.jsonc_sort.specs.Above.{all_comments_above, leads_read}
use Rattle.jsonc_sort.specs.declared.above.LeadRead.{LeadRead}
use Rattle.jsonc_cst.specs.declared.cst.CstRootNode.{CstRootNode}
use Rattle.jsonc_cst.specs.declared.cst.node.CstComment.{CstComment}
use Rattle.jsonc_cst.specs.declared.cst.node.CstNode.{CstNode}
use Rattle.jsonc_cst.specs.Document.{nodes_of, HasNode}
use Rattle.jsonc_cst.specs.declared.cst.node.CstLeafNode.TheVariants.{Comment}
use Rattle.jsonc_cst.specs.declared.cst.node.CstNode.TheVariants.{Leaf}
use Rattle.jsonc_cst.specs.Nodes.{comment_node, number_of, typed_at}

-- by blank lines: all comments above an element before which a blank line is, else none
abbrev pub blank_line_pin : LeadRead → Option ℕ
blank_line_pin lead = Some (if lead.blank_line then lead.comments else 0)

-- by the last blank line: the comments above it
abbrev pub header_pin : LeadRead → Option ℕ
header_pin lead = Some lead.header

-- the comment, if the node is one
abbrev pub comment_if : CstNode → Option CstComment
comment_if (Leaf (Comment x)) = Some x
comment_if _ = None

module _ {A : Type 0} where
  -- what is before each element of a container
  abbrev pub leads_of : CstRootNode A → CstNode → List LeadRead
  leads_of d node = leads_read (nodes_of d) (number_of node)

  -- where headers are kept, the comments that are pinned above each of its elements
  abbrev pub kept_headers : CstRootNode A → CstNode → List (Option ℕ)
  kept_headers d node = map header_pin (leads_of d node)

  -- the comments above its elements, one element's after another's
  abbrev pub comments_of : CstRootNode A → CstNode → List CstComment
  comments_of d node = filter_map (λ n. comment_if (typed_at (nodes_of d) n)) (all_comments_above (nodes_of d) (number_of node))

  -- where blank lines are to pin comments, those that they pin above each of its elements; else none
  abbrev pub pins_where : CstRootNode A → CstNode → Bool → List (Option ℕ)
  pins_where d node pin = if pin then map blank_line_pin (leads_of d node) else []

  abbrev pub HoldsComment : CstRootNode A → CstComment → Type 0
  HoldsComment d c = HasNode d (comment_node c)

-- by a rule, which is asked of a node and the comments above it
module _ {F D N : Type 0} (g : Shared F (Bor D × (N × (Bor (List CstComment) × Unit {0}))) ℕ) (rule : F) (doc : D) where
  -- it may be asked of this document and nodes of it
  abbrev pub MayPin : (N → Type 0) → (CstComment → Type 0) → Type 0
  MayPin Held HeldComment =
      (d : Bor D) (x : N) (above : Bor (List CstComment)) → d.now ≡ doc → Held x → All HeldComment above.now → g.pre rule (d, (x, (above, tt)))

  -- the rule is asked where comments are above a node, and has answered so many
  abbrev pub IsPin : Option N → List CstComment → Option ℕ → Type 0
  IsPin None comments pin = pin ≡ Some 0
  IsPin (Some x) [] pin = pin ≡ Some 0
  IsPin (Some x) (c ∷ comments) pin =
      (count : ℕ) × (pin ≡ Some count) × (d : Bor D) × (above : Bor (List CstComment)) × (d.now ≡ doc) × (above.now ≡ c ∷ comments)
      × g.post rule (d, (x, (above, tt))) count

  -- so for the nodes from a place on, by what is before each: the comments of each are as many as its lead has
  abbrev pub ArePins : List (Option N) → ℕ → List LeadRead → List CstComment → List (Option ℕ) → Type 0
  ArePins nodes place [] comments pins = pins ≡ []
  ArePins nodes place (lead ∷ leads) comments [] = ⊥
  ArePins nodes place (lead ∷ leads) comments (pin ∷ pins) =
      IsPin (node_in nodes place) (take lead.comments comments) pin × ArePins nodes (suc place) leads (drop lead.comments comments) pins
