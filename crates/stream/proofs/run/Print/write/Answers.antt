use Rattle.stream.proofs.Laws.Run.{nothing_written, epoch-written, end-written}
use Rattle.stream.proofs.run.Print.write.Goals as goal

pub returns-in-Nothing : goal.returns-in-Nothing
returns-in-Nothing c =
    let told = nothing_written c.args.self c.args.out.now c.in-Nothing.is in record {
      out_after = told.0;
      short = told.1;
    }

pub returns-in-Epoch : goal.returns-in-Epoch
returns-in-Epoch c =
    let told = epoch-written c.args.self c.args.out.now _ c.in-Epoch.is _ c.write_epoch.ensures in record {
      out_after = told.0;
      short = told.1;
    }

pub returns-in-End : goal.returns-in-End
returns-in-End c =
    let told = end-written c.args.self c.args.out.now _ c.in-End.is _ c.write_end.ensures in record {
      out_after = told.0;
      short = told.1;
    }
