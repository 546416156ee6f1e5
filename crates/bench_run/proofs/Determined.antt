-- Each public function of `bench_run`, and why its contract determines it: the contract equates the outcome with a definition, and two
-- things that equal a third are equal (`only_one`, the single law). A function that is missing here is a defect.
-- Assumes nothing.
use Rattle.common.specs.Determined.{Determined}
use Rattle.common.proofs.OnlyOne.{only_one}
use Rattle.bench_run.proofs.brancove_bench_run.Kinds as brancove-bench-run-kinds
use Rattle.bench_run.proofs.brancove_bench_run.Reads as brancove-bench-run-reads

brancove_bench_run_determined : Determined 3 brancove-bench-run-kinds.ps brancove-bench-run-kinds.r brancove-bench-run-reads.Post
brancove_bench_run_determined κs a z z' ws ws' p q = (only_one p.verbs q.verbs, rw (only_one p.words_after q.words_after, only_one p.report_after q.report_after))
