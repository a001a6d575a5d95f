use Rattle.kt_check.proofs.FilePhases.{clear_declarations, clear_members, clear_names, clear_shapes, clear_sizes, clear_bodies, stops_at_declarations, stops_at_members, stops_at_names, stops_at_shapes, stops_at_sizes, stops_at_bodies, sizes_none, sizes_fault, passed_on}
use Rattle.kt_check.proofs.file_phases.clear_file.Goals as goal

pub returns-in_err-table-clause-stops : goal.returns-in_err-table-clause-stops
returns-in_err-table-clause-stops c =
    let file = c.args.file.now in
    passed_on file c.in_err-table.field-0.0 c.from_residual.result c.from_residual.ensures.1 (stops_at_declarations file c.in_err-table.field-0.0 c.in_err-table.ensures.fault)

pub returns-in_err-members-clause-stops : goal.returns-in_err-members-clause-stops
returns-in_err-members-clause-stops c =
    let file = c.args.file.now in
    let clear = clear_declarations file c.in_ok-table.ensures.accepted in
    passed_on file c.in_err-members.field-0.0 c.from_residual-in_err-members.result c.from_residual-in_err-members.ensures.1 (stops_at_members file c.in_err-members.field-0.0 clear c.in_err-members.ensures.fault)

pub returns-in_err-uses-clause-stops : goal.returns-in_err-uses-clause-stops
returns-in_err-uses-clause-stops c =
    let file = c.args.file.now in
    let clear = clear_members file (clear_declarations file c.in_ok-table.ensures.accepted) c.in_ok-members.ensures.accepted in
    passed_on file c.in_err-uses.field-0.0 c.from_residual-in_err-uses.result c.from_residual-in_err-uses.ensures.1 (stops_at_names file c.in_err-uses.field-0.0 clear c.in_err-uses.ensures.fault)

pub returns-in_err-shapes-clause-stops : goal.returns-in_err-shapes-clause-stops
returns-in_err-shapes-clause-stops c =
    let file = c.args.file.now in
    let members = clear_members file (clear_declarations file c.in_ok-table.ensures.accepted) c.in_ok-members.ensures.accepted in
    let clear = clear_names file members c.in_ok-uses.ensures.accepted in
    passed_on file c.in_err-shapes.field-0.0 c.from_residual-in_err-shapes.result c.from_residual-in_err-shapes.ensures.1 (stops_at_shapes file c.in_err-shapes.field-0.0 clear c.in_err-shapes.ensures.fault)

pub returns-in_err-sizes-clause-stops : goal.returns-in_err-sizes-clause-stops
returns-in_err-sizes-clause-stops c =
    let file = c.args.file.now in
    let uses = c.in_ok-uses.uses in
    let members = clear_members file (clear_declarations file c.in_ok-table.ensures.accepted) c.in_ok-members.ensures.accepted in
    let clear = clear_shapes file (clear_names file members c.in_ok-uses.ensures.accepted) c.in_ok-shapes.ensures.accepted in
    let fault = sizes_fault file uses c.in_ok-table.table c.in_err-sizes.field-0.0 c.in_ok-table.ensures.table c.in_err-sizes.ensures.fault in
    passed_on file c.in_err-sizes.field-0.0 c.from_residual-in_err-sizes.result c.from_residual-in_err-sizes.ensures.1 (stops_at_sizes file uses c.in_err-sizes.field-0.0 c.in_ok-uses.ensures.uses clear fault)

pub returns-in_err-bodies-clause-stops : goal.returns-in_err-bodies-clause-stops
returns-in_err-bodies-clause-stops c =
    let file = c.args.file.now in
    let uses = c.in_ok-uses.uses in
    let members = clear_members file (clear_declarations file c.in_ok-table.ensures.accepted) c.in_ok-members.ensures.accepted in
    let shapes = clear_shapes file (clear_names file members c.in_ok-uses.ensures.accepted) c.in_ok-shapes.ensures.accepted in
    let clear = clear_sizes file uses c.in_ok-uses.ensures.uses shapes (sizes_none file uses c.in_ok-table.table c.in_ok-table.ensures.table c.in_ok-sizes.ensures.accepted) in
    passed_on file c.in_err-bodies.field-0.0 c.from_residual-in_err-bodies.result c.from_residual-in_err-bodies.ensures.1 (stops_at_bodies file uses c.in_err-bodies.field-0.0 c.in_ok-uses.ensures.uses clear c.in_err-bodies.ensures.fault)

pub returns-clause-clear : goal.returns-clause-clear
returns-clause-clear c =
    let file = c.args.file.now in
    let uses = c.in_ok-uses.uses in
    let members = clear_members file (clear_declarations file c.in_ok-table.ensures.accepted) c.in_ok-members.ensures.accepted in
    let shapes = clear_shapes file (clear_names file members c.in_ok-uses.ensures.accepted) c.in_ok-shapes.ensures.accepted in
    let sizes = clear_sizes file uses c.in_ok-uses.ensures.uses shapes (sizes_none file uses c.in_ok-table.table c.in_ok-table.ensures.table c.in_ok-sizes.ensures.accepted) in
    record {
      resolved = c.in_ok-uses.ensures.uses;
      none = clear_bodies file uses c.in_ok-uses.ensures.uses sizes c.in_ok-bodies.ensures.accepted;
      settled = c.in_ok-bodies.ensures.settled;
    }
