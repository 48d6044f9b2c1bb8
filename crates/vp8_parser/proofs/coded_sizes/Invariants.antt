use Rattle.std.proofs.Common.{◌≡◌, ◌*◌, ◌^◌, ◌≤◌}
use Rattle.rfc6386.specs.Frame.{coded_sizes, sum}
use Rattle.vp8_parser.specs.Answers.{padded}
use Rattle.vp8_parser.proofs.coded_sizes.Given as goal

abbrev pub invariant-loop-i : goal.invariant-loop-i
invariant-loop-i l = record {
  listed : l.sizes ≡ padded (coded_sizes l.i l.area l.start);
  added : l.total ≡ sum (coded_sizes l.i l.area l.start);
  bounded : l.total ≤ l.i * 2 ^ 32;
}
