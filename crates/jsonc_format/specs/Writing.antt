-- What is known while a text is written, as the code keeps it.
use Rattle.std.specs.Prelude.{ℕ, Bool, true, false, not, ◌&&◌, ◌||◌, List, [], ◌∷◌, ◌++◌, map, reverse, Option, Some, None, option_to_list, chars, String, string_bytes, if◌then◌else◌}
use Rattle.jsonc_format.specs.declared.class.Class.{Class}
use Rattle.jsonc_format.specs.declared.class.Class.TheVariants as class
use Rattle.jsonc_format.specs.declared.state.Frame as code
use Rattle.jsonc_format.specs.declared.state.Beside.{Beside}
use Rattle.jsonc_format.specs.declared.state.Open.{Open}
use Rattle.jsonc_format.specs.declared.output.Layout.{Layout}
use Rattle.jsonc_format.specs.declared.gap.Gap.{Gap}
use Rattle.jsonc_format.specs.declared.gap.Gap.TheVariants as gap
use Rattle.jsonc_format.specs.Format.{Style, Frame, State, new_line, without_first}

-- the characters of a text that is written
abbrev pub text_of : {A : Type 0} → String A → List ℕ
text_of s = chars (string_bytes s)

abbrev pub frame_of : code.Frame → Frame
frame_of f = record { object = f.object; spread = f.spread; shifted = f.shifted }

-- the open containers, the innermost first
abbrev pub frames_of : Option code.Frame → List code.Frame → List Frame
frames_of inner outer = map frame_of (option_to_list inner ++ reverse outer)

abbrev pub open_frames : {A : Type 0} → Open A → List Frame
open_frames s = frames_of s.inner s.outer.items

abbrev pub start_beside : Beside
start_beside = record { bare = false; in_property = false; shifted = false; comment = false; line = false }

abbrev pub beside_after : Class → Bool → Beside → Beside
beside_after class.OpenArray object b = record start_beside { bare = true }
beside_after class.OpenObject object b = record start_beside { bare = true }
beside_after class.Close object b = start_beside
beside_after class.Comma object b = start_beside
beside_after class.Colon object b = record start_beside { in_property = true; shifted = b.shifted }
beside_after class.Literal object b = record start_beside { in_property = object && not b.in_property }
beside_after class.BlockComment object b = record start_beside { in_property = b.in_property; shifted = b.shifted; comment = true }
beside_after class.LineComment object b = record start_beside { in_property = b.in_property; shifted = b.in_property || b.shifted; comment = true; line = true }

-- the state of the definition
abbrev pub state_of : List Frame → Beside → State
state_of around b = record { around = around; bare = b.bare; in_property = b.in_property; shifted = b.shifted; comment = b.comment; line = b.line }

-- what is written for a gap inside these containers
abbrev pub gap_text : Style → List Frame → Gap → List ℕ
gap_text y around gap.Nothing = []
gap_text y around gap.Space = 0x20 ∷ []
gap_text y around (gap.Line shifted blank) = new_line y around shifted blank
gap_text y around (gap.LastLine shifted) = new_line y (without_first around) shifted false

-- the gap before a piece of a container on several lines, by what it depends on
abbrev pub gap_on_lines_by : Beside → (separates in_it blank leads : Bool) → Gap
gap_on_lines_by b separates in_it blank leads =
    if b.line then gap.Line b.shifted (blank && not (separates || b.in_property))
    else (if separates then gap.Nothing
    else (if b.in_property || (in_it && (b.comment || not leads)) then gap.Space
    else gap.Line b.shifted (blank && not b.bare)))

abbrev pub gap_in_line_by : Bool → Bool → (separates closes : Bool) → Gap
gap_in_line_by object bare separates closes = if separates || ((bare || closes) && not object) then gap.Nothing else gap.Space

abbrev pub gap_by : Option code.Frame → Beside → (separates closes in_it blank leads : Bool) → Gap
gap_by None b separates closes in_it blank leads = gap_on_lines_by b separates in_it blank leads
gap_by (Some f) b separates closes in_it blank leads =
    if b.bare && closes then gap.Nothing
    else (if not f.spread then gap_in_line_by f.object b.bare separates closes
    else (if closes then gap.LastLine f.shifted else gap_on_lines_by b separates in_it blank leads))

-- the style that is written
abbrev pub style_in : Layout → Style
style_in l = record { line_end = chars l.line_end.now; level = chars l.level.now; expands = l.expand }
