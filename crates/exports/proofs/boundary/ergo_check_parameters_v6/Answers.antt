use Rattle.wire.specs.Map.{map_of}
use Rattle.wire.specs.Values.{table_at}
use Rattle.extension.specs.Parameters.{check_parameters}
use Rattle.exports.proofs.BoundaryLaws.{matched-told, matched-none}
use mathlib.Core.Path.{◌≡◌, sym, ◌∙◌}
use Rattle.exports.proofs.boundary.ergo_check_parameters_v6.Goals as goal

pub returns-in-Ok : goal.returns-in-Ok
returns-in-Ok c =
    let x = c.check_parameters_v6-x in
    let s = c.args in
    let e : x.result ≡ check_parameters (table_at s.table.now 0) (map_of s.parameters.now) = rw (← c.map_of-m.ensures, ← c.table_of-t.ensures) x.ensures.value in
    let k = matched-none (sym c.in-Ok.is ∙ e) in record { value = k.0; told = k.1 }

pub returns-in-Err : goal.returns-in-Err
returns-in-Err c =
    let x = c.check_parameters_v6-x in
    let s = c.args in
    let e : x.result ≡ check_parameters (table_at s.table.now 0) (map_of s.parameters.now) = rw (← c.map_of-m.ensures, ← c.table_of-t.ensures) x.ensures.value in
    let k = matched-told (sym c.in-Err.is ∙ e) c.number.ensures c.with_id.ensures.value c.with_id.ensures.told in record { value = k.0; told = k.1 }
