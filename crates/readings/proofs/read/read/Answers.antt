use Rattle.std.proofs.Common.{Err, refl, inl, inr}
use Rattle.readings.specs.Requests.{answer, asked}
use Rattle.readings.proofs.Forms.{exact}
use Rattle.readings.proofs.read.read.Goals as goal

pub returns-then-file-gt4096 : goal.returns-then-file-gt4096
returns-then-file-gt4096 c =
    record {
      value = inl (c.if-file-gt4096.true, refl);
      form = exact c.args.file.now (Err (18, 0)) (inl (c.if-file-gt4096.true, refl));
    }

pub returns : goal.returns
returns c =
    record {
      value = inr (c.if-file-gt4096.false, c.read_lines.ensures);
      form = exact c.args.file.now (answer asked c.read_lines.result) (inr (c.if-file-gt4096.false, c.read_lines.ensures));
    }
