-- The four ways to the end: `read-malformed`, `read-faulty`, `read_small`, `read_done`.
use Rattle.std.proofs.Common.{◌≡◌, ◌*◌, ◌≤◌, ◌<◌, ◌++◌, length, drop, arith, sym, ap, ◌∙◌}
use Rattle.std.proofs.lemmas.Result.{err_from_is_err_and}
use Rattle.outcome.specs.Outcome.{file, beside}
use Rattle.road_file.specs.File.{unfed, feed}
use Rattle.road_file.specs.Reader.{reader_of, wrong_by}
use Rattle.road_file.proofs.SmallLaws.{said-small}
use Rattle.road_read.specs.Read.{table_due}
use Rattle.road_read.proofs.ReadLaws.{length-due, read-malformed, read-faulty, read_small, read_done}
use Rattle.road_read.proofs.read.Goals as goal
use Rattle.road_read.proofs.read.Goals.{After-wrong_line-line}

-- what the reader's wrong line tells
line : (c : After-wrong_line-line) → c.wrong_line-line.result ≡ wrong_by (reader_of (feed unfed c.args.text.now))
line c = c.wrong_line-line.ensures ∙ ap wrong_by c.judge_text-judged.ensures.0

count : (c : After-wrong_line-line) → c.judge_text-judged.result.reader.count ≡ length (feed unfed c.args.text.now).said.arcs
count c = ap (λ r. r.count) c.judge_text-judged.ensures.0

pub returns-then-line-ne0 : goal.returns-then-line-ne0
returns-then-line-ne0 c =
    let l = line (goal.at.returns-then-line-ne0 c).After-wrong_line-line in
    read-malformed c.args.text.now c.args.table.now _ (ap (beside file) l) (λ z. c.if-line-ne0.true (l ∙ z))

pub returns-in_err-fault_in : goal.returns-in_err-fault_in
returns-in_err-fault_in c =
    let l = line (goal.at.returns-in_err-fault_in c).After-wrong_line-line in
    let p = err_from_is_err_and c.from_residual.result c.from_residual.ensures.1 in
    rw (p.1, p.2) (read-faulty c.args.text.now c.args.table.now (sym l ∙ c.if-line-ne0.false) c.in_err-fault_in.field-0.0 c.in_err-fault_in.ensures)

pub returns-then-table-arcs : goal.returns-then-table-arcs
returns-then-table-arcs c =
    let w = (goal.at.returns-then-table-arcs c).After-wrong_line-line in
    let text = c.args.text.now in
    let small : length c.args.table.now < length (table_due (feed unfed text).said.arcs) =
    omega (arith, c.if-table-arcs.true, count w, length-due (feed unfed text).said.arcs) in
    read_small text c.args.table.now (sym (line w) ∙ c.if-line-ne0.false) (sym c.in_ok-fault_in.ensures) _ c.plain.ensures small

pub make-requires : goal.make-requires
make-requires c =
    let w = (goal.at.make-requires c).After-wrong_line-line in
    (count w, omega (arith, c.if-table-arcs.false), omega (arith, c.judge_text-judged.type_inv), said-small c.args.text.now)

pub returns : goal.returns
returns c =
    let w = (goal.at.returns c).After-wrong_line-line in
    let text = c.args.text.now in
    let t = c.args.table.now in
    let n = c.judge_text-judged.result.reader.count in
    let due : n * 16 ≡ length (table_due (feed unfed text).said.arcs) = omega (arith, count w, length-due (feed unfed text).said.arcs) in
    let room : n * 16 ≤ length t = omega (arith, c.if-table-arcs.false) in
    read_done text t (sym (line w) ∙ c.if-line-ne0.false) (sym c.in_ok-fault_in.ensures)
    _ _ _ due (ap (λ r. r.nodes) c.judge_text-judged.ensures.0) (omega (arith, due, room))
    (c.make.ensures ∙ ap (λ k. table_due (feed unfed text).said.arcs ++ drop k t) due)
