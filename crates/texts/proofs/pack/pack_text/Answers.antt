use Rattle.std.proofs.Common.{Ok, sym, ap, ◌∙◌}
use Rattle.texts.specs.Error.{onward}
use Rattle.texts.specs.Pack.{said_content}
use Rattle.packs.specs.Job.{encoded}
use Rattle.texts.proofs.GivesBack.{gives_job_back, gives_short_job_back}
use Rattle.texts.proofs.Sound.{says_lawful}
use Rattle.texts.proofs.pack.pack_text.Goals as goal

pub write-requires : goal.write-requires
write-requires c = says_lawful c.args.text.now (said_content c.in_ok-job.job) c.in_ok-job.ensures

pub returns-clause-lawful : goal.returns-clause-lawful
returns-clause-lawful c = record {
  job = said_content c.in_ok-job.job;
  said = c.in_ok-job.ensures;
  lawful = says_lawful c.args.text.now (said_content c.in_ok-job.job) c.in_ok-job.ensures;
  read = c.in_ok-write.ensures.reads_back;
}

pub returns-clause-gives_job_back : goal.returns-clause-gives_job_back
returns-clause-gives_job_back c =
    gives_job_back c.args.text.now (Ok c.in_ok-write.field-0) (ap (λ s. onward s (λ j. Ok (encoded j))) c.in_ok-job.ensures ∙ ap Ok (sym c.in_ok-write.ensures.bytes))

pub returns-clause-gives_short_job_back : goal.returns-clause-gives_short_job_back
returns-clause-gives_short_job_back c =
    gives_short_job_back c.args.text.now (Ok c.in_ok-write.field-0) (ap (λ s. onward s (λ j. Ok (encoded j))) c.in_ok-job.ensures ∙ ap Ok (sym c.in_ok-write.ensures.bytes))
