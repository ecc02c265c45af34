-- The kinds of nodes that stand in a row, as readings tell them apart.
use Rattle.std.specs.Prelude.{ℕ, Bool, true, false, List, ◌==◌, ◌||◌, not}
use Rattle.jsonc_tree.specs.Content.{Content, property, token, whitespace, newline, comment}
use Rattle.jsonc_tree.specs.Tree.{Node, content_at}
-- the end of a line
pub use Rattle.jsonc_tree.specs.Content.{is_newline}
pub use Rattle.jsonc_tree.specs.Tree.{is_newline_at}
use Rattle.jsonc_tree.specs.Values.{is_passed_over}

-- neither whitespace, a newline, a comment nor a token
abbrev pub is_element : Content → Bool
is_element content = not (is_passed_over content)

abbrev pub is_property : Content → Bool
is_property property = true
is_property _ = false

abbrev pub is_colon : Content → Bool
is_colon (token c) = c == 0x3A
is_colon _ = false

abbrev pub is_comma : Content → Bool
is_comma (token c) = c == 0x2C
is_comma _ = false

-- a bracket, a comma, a colon or another single character
abbrev pub is_token : Content → Bool
is_token (token c) = true
is_token content = false

abbrev pub is_whitespace : Content → Bool
is_whitespace (whitespace s) = true
is_whitespace _ = false

abbrev pub is_comment : Content → Bool
is_comment (comment s) = true
is_comment _ = false

-- what may stand beside a node on its line: whitespace or a comment
abbrev pub is_inline_trivia : Content → Bool
is_inline_trivia (whitespace s) = true
is_inline_trivia (comment s) = true
is_inline_trivia _ = false

abbrev pub is_trivia : Content → Bool
is_trivia (whitespace s) = true
is_trivia (newline k) = true
is_trivia (comment s) = true
is_trivia _ = false

-- the same of the nodes by their numbers
abbrev pub is_element_at : List Node → ℕ → Bool
is_element_at ns n = is_element (content_at ns n)

abbrev pub is_colon_at : List Node → ℕ → Bool
is_colon_at ns n = is_colon (content_at ns n)

abbrev pub is_comma_at : List Node → ℕ → Bool
is_comma_at ns n = is_comma (content_at ns n)

abbrev pub is_whitespace_at : List Node → ℕ → Bool
is_whitespace_at ns n = is_whitespace (content_at ns n)

-- whitespace or the end of a line
abbrev pub is_blank_at : List Node → ℕ → Bool
is_blank_at ns n = is_whitespace_at ns n || is_newline_at ns n

abbrev pub is_comment_at : List Node → ℕ → Bool
is_comment_at ns n = is_comment (content_at ns n)

abbrev pub is_inline_trivia_at : List Node → ℕ → Bool
is_inline_trivia_at ns n = is_inline_trivia (content_at ns n)

abbrev pub is_trivia_at : List Node → ℕ → Bool
is_trivia_at ns n = is_trivia (content_at ns n)
