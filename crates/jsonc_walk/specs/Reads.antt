-- What a parser has read between two of its states.
use Rattle.std.specs.Prelude.{◌≡◌, ◌≤◌}
use Rattle.jsonc_walk.specs.declared.context.Context.{Context}
use Rattle.jsonc_walk.specs.Context.{text_in, options_in, token_start, token_end}
use Rattle.jsonc_walk.specs.Located.{Located, range_at, IsLocated, IsNamed, LocatedMember}

module _ {A : Type 0} where
  -- the value, from the start of the token at hand before to the end of the one after
  pub record Reads (old new : Context A) (x : Located) : Type 0 where
    pub value : IsLocated (options_in old) (text_in old) x
    pub starts : (range_at x).start ≡ token_start old
    pub ends : (range_at x).end ≡ token_end new
    pub on : token_end old ≤ token_end new

  -- the property
  pub record ReadsMember (old new : Context A) (m : LocatedMember) : Type 0 where
    pub named : IsNamed (options_in old) (text_in old) m.name m.range (range_at m.value)
    pub value : IsLocated (options_in old) (text_in old) m.value
    pub starts : m.range.start ≡ token_start old
    pub ends : m.range.end ≡ token_end new
    pub on : token_end old ≤ token_end new
