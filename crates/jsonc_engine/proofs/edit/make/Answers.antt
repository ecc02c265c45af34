use Rattle.std.proofs.Common.{subst}
use Rattle.jsonc_cst.specs.Document.{nodes_of}
use Rattle.jsonc_engine.specs.Change.{IsChangeFor}
use Rattle.jsonc_engine.proofs.Changes.{append_makes, append_told, drop_makes, drop_told, ok_so, put_makes, put_told, remove_makes, remove_told, set_makes, set_told, sort_makes, sort_told}
use Rattle.jsonc_engine.proofs.edit.make.Goals as goal

pub returns-in-Set-clause-made : goal.returns-in-Set-clause-made
returns-in-Set-clause-made g c = λ o request is.
    ok_so c.set_property.result (set_makes o request (nodes_of c.args.document.now) (nodes_of c.set_property.new.document) c.in-Set.name c.in-Set.value (subst (IsChangeFor request) c.in-Set.is is))
    (c.set_property.ensures.set o)

pub returns-in-Set-clause-error : goal.returns-in-Set-clause-error
returns-in-Set-clause-error g c = λ o request is sound.
    set_told o request (nodes_of c.args.document.now) c.in-Set.name c.in-Set.value (subst (IsChangeFor request) c.in-Set.is is) c.set_property.result (c.set_property.ensures.error o sound)

pub returns-in-Append-clause-made : goal.returns-in-Append-clause-made
returns-in-Append-clause-made g c = λ o request is.
    ok_so c.append_element.result (append_makes o request (nodes_of c.args.document.now) (nodes_of c.append_element.new.document) c.in-Append.value (subst (IsChangeFor request) c.in-Append.is is))
    (c.append_element.ensures.appended o)

pub returns-in-Append-clause-error : goal.returns-in-Append-clause-error
returns-in-Append-clause-error g c = λ o request is sound.
    append_told o request (nodes_of c.args.document.now) c.in-Append.value (subst (IsChangeFor request) c.in-Append.is is) c.append_element.result (c.append_element.ensures.error o sound)

pub returns-in-Remove-clause-made : goal.returns-in-Remove-clause-made
returns-in-Remove-clause-made g c = λ o request is.
    ok_so c.remove_property.result (remove_makes o request (nodes_of c.args.document.now) (nodes_of c.remove_property.new.document) c.in-Remove.name (subst (IsChangeFor request) c.in-Remove.is is))
    (c.remove_property.ensures.removed o)

pub returns-in-Remove-clause-error : goal.returns-in-Remove-clause-error
returns-in-Remove-clause-error g c = λ o request is sound.
    remove_told o request (nodes_of c.args.document.now) c.in-Remove.name (subst (IsChangeFor request) c.in-Remove.is is) c.remove_property.result (c.remove_property.ensures.error o sound)

pub returns-in-Sort-clause-made : goal.returns-in-Sort-clause-made
returns-in-Sort-clause-made g c = λ o request is.
    ok_so c.sort_properties.result (sort_makes o request (nodes_of c.args.document.now) (nodes_of c.sort_properties.new.document) (subst (IsChangeFor request) c.in-Sort.is is))
    (c.sort_properties.ensures.sorted o)

pub returns-in-Sort-clause-error : goal.returns-in-Sort-clause-error
returns-in-Sort-clause-error g c = λ o request is sound.
    sort_told o request (nodes_of c.args.document.now) (subst (IsChangeFor request) c.in-Sort.is is) c.sort_properties.result (c.sort_properties.ensures.error o sound)

pub returns-in-Put-clause-made : goal.returns-in-Put-clause-made
returns-in-Put-clause-made g c = λ o request is.
    ok_so c.put_setting.result (put_makes o request (nodes_of c.args.document.now) (nodes_of c.put_setting.new.document) c.in-Put.names c.in-Put.value (subst (IsChangeFor request) c.in-Put.is is) c.deref.result.now c.deref.ensures.value)
    (c.put_setting.ensures.put o)

pub returns-in-Put-clause-error : goal.returns-in-Put-clause-error
returns-in-Put-clause-error g c = λ o request is sound.
    put_told o request (nodes_of c.args.document.now) c.in-Put.names c.in-Put.value (subst (IsChangeFor request) c.in-Put.is is) c.deref.result.now c.deref.ensures.value c.put_setting.result (c.put_setting.ensures.error o sound)

pub returns-in-Drop-clause-made : goal.returns-in-Drop-clause-made
returns-in-Drop-clause-made g c = λ o request is.
    ok_so c.drop_setting.result (drop_makes o request (nodes_of c.args.document.now) (nodes_of c.drop_setting.new.document) c.in-Drop.names (subst (IsChangeFor request) c.in-Drop.is is) c.deref-in-Drop.result.now c.deref-in-Drop.ensures.value)
    (c.drop_setting.ensures.dropped o)

pub returns-in-Drop-clause-error : goal.returns-in-Drop-clause-error
returns-in-Drop-clause-error g c = λ o request is sound.
    drop_told o request (nodes_of c.args.document.now) c.in-Drop.names (subst (IsChangeFor request) c.in-Drop.is is) c.deref-in-Drop.result.now c.deref-in-Drop.ensures.value c.drop_setting.result (c.drop_setting.ensures.error o sound)
