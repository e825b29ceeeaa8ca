use Rattle.exports.specs.Calls.{computed_by}
use Rattle.exports.proofs.BoundaryLaws.{boundary-is}
use Rattle.exports.proofs.boundary.ergo_compute_boundary_parameters.Goals as goal

pub returns : goal.returns
unfolding computed_by
returns c =
    let a = c.args in
    boundary-is a.tally.now a.proposed_update.now a.question.now a.out.now c.write_computed.new.out c.write_computed.result
    c.question_of.result c.compute_boundary_parameters.result c.question_of.ensures c.write_computed.ensures c.compute_boundary_parameters.ensures
