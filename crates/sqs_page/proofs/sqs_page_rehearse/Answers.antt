use Rattle.std.proofs.Common.{◌≡◌, [], rules, subst, take}
use Rattle.sqs_formats.specs.Actors.{Files}
use Rattle.sqs_page.specs.Asking.{plain}
use Rattle.sqs_page.specs.Pages.{IsOutputOf}
use Rattle.sqs_page.proofs.sqs_page_rehearse.Goals as goal

pub returns-clause-output : goal.returns-clause-output
returns-clause-output c done =
    let none : c.new-no_scripts.result ≡ [] = search rules in
    subst (λ (files : Files). IsOutputOf plain c.args.text.now files (take c.rehearse.new.needed c.rehearse.new.room)) none (c.rehearse.ensures.output done)
