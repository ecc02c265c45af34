-- Which characters past ASCII are letters or digits, by the Unicode version of the kit's tables.
use Rattle.std.specs.Prelude.{ℕ, Bool, ◌&&◌, ◌||◌, nat_lt}
use Rattle.unicode.specs.Binary.{is_alphabetic}
use Rattle.unicode.specs.GeneralCategory.{general_category}
use Rattle.unicode.specs.GeneralCategoryGroup.{in_group}
use Rattle.ucd_category.specs.declared.GeneralCategoryGroup.TheVariants.{Number}

-- past ASCII, and Alphabetic or of category Nd, Nl or No
unfoldable pub is_wide_letter : ℕ → Bool
is_wide_letter c = nat_lt 0x7F c && (is_alphabetic c || in_group Number (general_category c))
