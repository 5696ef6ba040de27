-- `file_form::form` meets its contract: the sections that are left decide. Assumes nothing.
use Rattle.file_form.proofs.Files.{passed_none, passed, stopped, told_on, formed, behind}
use Rattle.file_form.proofs.form.Goals as goal

pub returns-in_err-types : goal.returns-in_err-types
returns-in_err-types c =
    told_on (stopped (passed_none _) c.in_err-types.ensures) c.from_residual.result c.from_residual.ensures

pub returns-in_err-parents : goal.returns-in_err-parents
returns-in_err-parents c =
    let types = passed (passed_none _) c.in_ok-types.ensures in
    told_on (stopped types c.in_err-parents.ensures) c.from_residual-in_err-parents.result c.from_residual-in_err-parents.ensures

pub returns-in_err-presences : goal.returns-in_err-presences
returns-in_err-presences c =
    let types = passed (passed_none _) c.in_ok-types.ensures in
    let parents = passed types c.in_ok-parents.ensures in
    told_on (stopped parents c.in_err-presences.ensures) c.from_residual-in_err-presences.result c.from_residual-in_err-presences.ensures

pub returns-in_err-applications : goal.returns-in_err-applications
returns-in_err-applications c =
    let types = passed (passed_none _) c.in_ok-types.ensures in
    let parents = passed types c.in_ok-parents.ensures in
    let presences = passed parents c.in_ok-presences.ensures in
    told_on (stopped presences c.in_err-applications.ensures) c.from_residual-in_err-applications.result c.from_residual-in_err-applications.ensures

pub returns-in_err-ends : goal.returns-in_err-ends
returns-in_err-ends c =
    let types = passed (passed_none _) c.in_ok-types.ensures in
    let parents = passed types c.in_ok-parents.ensures in
    let presences = passed parents c.in_ok-presences.ensures in
    let applications = passed presences c.in_ok-applications.ensures in
    told_on (stopped applications c.in_err-ends.ensures) c.from_residual-in_err-ends.result c.from_residual-in_err-ends.ensures

pub returns-in_err-end : goal.returns-in_err-end
returns-in_err-end c =
    let types = passed (passed_none _) c.in_ok-types.ensures in
    let parents = passed types c.in_ok-parents.ensures in
    let presences = passed parents c.in_ok-presences.ensures in
    let applications = passed presences c.in_ok-applications.ensures in
    let ends = passed applications c.in_ok-ends.ensures in
    told_on (stopped ends c.in_err-end.ensures) c.from_residual-in_err-end.result c.from_residual-in_err-end.ensures

pub returns-then-end-file : goal.returns-then-end-file
returns-then-end-file c =
    let types = passed (passed_none _) c.in_ok-types.ensures in
    let parents = passed types c.in_ok-parents.ensures in
    let presences = passed parents c.in_ok-presences.ensures in
    let applications = passed presences c.in_ok-applications.ensures in
    let ends = passed applications c.in_ok-ends.ensures in
    let end = passed ends c.in_ok-end.ensures in
    formed end c.if-end-file.true

pub returns-else-end-file : goal.returns-else-end-file
returns-else-end-file c =
    let types = passed (passed_none _) c.in_ok-types.ensures in
    let parents = passed types c.in_ok-parents.ensures in
    let presences = passed parents c.in_ok-presences.ensures in
    let applications = passed presences c.in_ok-applications.ensures in
    let ends = passed applications c.in_ok-ends.ensures in
    let end = passed ends c.in_ok-end.ensures in
    behind end c.if-end-file.false
