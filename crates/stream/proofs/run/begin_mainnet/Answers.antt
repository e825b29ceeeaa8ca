use Rattle.std.proofs.Common.{refl, sym, subst}
use Rattle.std.specs.Result.{IsOk}
use Rattle.stream.proofs.Laws.Driven.{mainnet-opens, begins-mainnet, length-is}
use Rattle.stream.proofs.run.begin_mainnet.Goals as goal

pub unwrap-requires : goal.unwrap-requires
unwrap-requires c = subst IsOk (sym (mainnet-opens _ c.default_parameters.ensures _ length-is _ c.open-opened.ensures.value)) refl

pub returns : goal.returns
returns c =
    let told = begins-mainnet _ c.default_parameters.ensures _ length-is _ c.open-opened.ensures.value _ c.unwrap.ensures _ c.begin.ensures.value in record {
      value = told.0;
      begins = told.1;
    }
