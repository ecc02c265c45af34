-- Values one level at a time.
use Rattle.std.proofs.Common.{◌≡◌, ◌∙◌, sym, ap}
use Rattle.jsonc_text.specs.Plain.{Plain, array, object}
use Rattle.jsonc_value.specs.declared.value.JsonValue.{fold-roll-JsonValue}
use Rattle.jsonc_value.specs.declared.value.JsonArray.{JsonArray, fold_out-JsonArray}
use Rattle.jsonc_value.specs.declared.value.JsonObject.{JsonObject, fold_out-JsonObject}
use Rattle.jsonc_value.specs.declared.value.JsonValue.TheOpen.{JsonValue-F}
use Rattle.jsonc_value.specs.declared.value.JsonValue.TheVariants.{Array, Object, rolls-Array, rolls-Object}
use Rattle.jsonc_value.specs.Kinds.{elements, properties}
use Rattle.jsonc_value.specs.to_value.Views.{plain, items_plain, members_plain, value_step, array_step, object_step}

module _ {A : Type 0} where
  pub array_plain : (a : JsonArray A) → plain (Array a) ≡ array (items_plain (elements a))
  array_plain a = ap plain (sym (rolls-Array a)) ∙ fold-roll-JsonValue A Plain Plain Plain value_step array_step object_step (JsonValue-F.Array a) ∙ fold_out-JsonArray A Plain Plain Plain value_step array_step object_step a

  pub object_plain : (o : JsonObject A) → plain (Object o) ≡ object (members_plain (properties o))
  object_plain o = ap plain (sym (rolls-Object o)) ∙ fold-roll-JsonValue A Plain Plain Plain value_step array_step object_step (JsonValue-F.Object o) ∙ fold_out-JsonObject A Plain Plain Plain value_step array_step object_step o
