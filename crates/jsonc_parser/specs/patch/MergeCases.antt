-- The test cases of merge patches (RFC 7396, appendix A): the original, the patch and the result.
use Rattle.std.specs.Prelude.{◌≡◌, ℕ, [], ◌∷◌, List, Some, codes}
use Rattle.jsonc_text.specs.Plain.{Plain, null, number, string, array, object, Items, no_items, item, Members, no_members, member}
use Rattle.jsonc_parser.specs.patch.MergePatch.{merged}

abbrev pub a : List ℕ
a = codes "a"

abbrev pub b : List ℕ
b = codes "b"

abbrev pub c : List ℕ
c = codes "c"

abbrev pub d : List ℕ
d = codes "d"

-- objects of one member and of two, and arrays of one element and of two
abbrev pub one : List ℕ → Plain → Plain
one m v = object (member m v no_members)

abbrev pub two : List ℕ → Plain → List ℕ → Plain → Plain
two m v n w = object (member m v (member n w no_members))

abbrev pub one_in : Plain → Plain
one_in v = array (item v no_items)

abbrev pub two_in : Plain → Plain → Plain
two_in v w = array (item v (item w no_items))

pub record Case : Type 0 where
  pub original : Plain
  pub patch : Plain
  pub result : Plain

abbrev pub case : Plain → Plain → Plain → Case
case original patch result = record { original = original; patch = patch; result = result }

abbrev pub cases : List Case
cases =
    case (one a (string b)) (one a (string c)) (one a (string c))
    ∷ case (one a (string b)) (one b (string c)) (two a (string b) b (string c))
    ∷ case (one a (string b)) (one a null) (object no_members)
    ∷ case (two a (string b) b (string c)) (one a null) (one b (string c))
    ∷ case (one a (one_in (string b))) (one a (string c)) (one a (string c))
    ∷ case (one a (string c)) (one a (one_in (string b))) (one a (one_in (string b)))
    ∷ case (one a (one b (string c))) (one a (two b (string d) c null)) (one a (one b (string d)))
    ∷ case (one a (one_in (one b (string c)))) (one a (one_in (number (codes "1")))) (one a (one_in (number (codes "1"))))
    ∷ case (two_in (string a) (string b)) (two_in (string c) (string d)) (two_in (string c) (string d))
    ∷ case (one a (string b)) (one_in (string c)) (one_in (string c))
    ∷ case (one a (string (codes "foo"))) null null
    ∷ case (one a (string (codes "foo"))) (string (codes "bar")) (string (codes "bar"))
    ∷ case (one (codes "e") null) (one a (number (codes "1"))) (two (codes "e") null a (number (codes "1")))
    ∷ case (two_in (number (codes "1")) (number (codes "2"))) (two a (string b) c null) (one a (string b))
    ∷ case (object no_members) (one a (one (codes "bb") (one (codes "ccc") null))) (one a (one (codes "bb") (object no_members)))
    ∷ []

-- in each the function makes the result of the original
abbrev pub AllHold : List Case → Type 0
AllHold [] = Unit {0}
AllHold (x ∷ xs) = (merged (Some x.original) x.patch ≡ x.result) × AllHold xs
