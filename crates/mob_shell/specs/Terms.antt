-- The terms of a run: what its options say about evaluation.
use Rattle.mob_arguments.specs.declared.options.Settings.{Settings}
use Rattle.mob_slice.specs.Modes.{mode_of}
use Rattle.mob_meaning.specs.declared.terms.Terms.{Terms}

abbrev pub terms_of : Settings → Terms
terms_of settings = record { epoch = settings.epoch; mode = mode_of settings.wide }
