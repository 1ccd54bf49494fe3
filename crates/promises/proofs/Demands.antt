-- The three demands are met.
use Rattle.promises.specs.Demands.{Demands}
use Rattle.promises.proofs.Refusals.{refusals}
use Rattle.promises.proofs.Answers.{answers}
use Rattle.promises.proofs.Lists.{listings}
use Rattle.promises.proofs.Pages.{pages}
use Rattle.promises.proofs.Panels.{panels}
use Rattle.promises.proofs.Table.{table_holds}

pub met : Demands
met = record { refusals = refusals; answers = answers; listings = listings; pages = pages; panels = panels; examples = table_holds }
