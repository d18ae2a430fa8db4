-- The arguments of a command line have one meaning.
use Rattle.std.{specs.Prelude.{Bool, codes}, proofs.Common.{arith, ◌≡◌, refl, ℕ, Option}}
use Rattle.clap.specs.Words.{Text}
use Rattle.mob_arguments.{specs.Arguments.{IsCount, option_value}, specs.CommandLine.{IsDemo, command}, specs.Outcomes.{SaysOneThing}, specs.declared.options.Settings.{Settings}}
use Rattle.mob_arguments.proofs.Readings.{one_count, one_day, one_flag, one_optional, one_workers}

one_demo : (value : Option Text) (a b : Option ℕ) → IsDemo value a → IsDemo value b → a ≡ b
one_demo = one_optional (IsCount 1000) (λ text a b h k. one_count 1000 text a b (omega arith) h k)

same_settings : (a b : Settings) → a.workers ≡ b.workers → a.epoch ≡ b.epoch → a.demo ≡ b.demo → a.wide ≡ b.wide → a ≡ b
same_settings a b workers epoch demo wide = rw (workers, epoch, demo, wide) refl

pub one_setting : SaysOneThing
one_setting words a b h k =
    let count : a.workers ≡ b.workers = one_workers (option_value command (codes "workers") words) a.workers b.workers h.count k.count in
    let day : a.epoch ≡ b.epoch = one_day (option_value command (codes "epoch") words) a.epoch b.epoch h.day k.day in
    let demo : a.demo ≡ b.demo = one_demo (option_value command (codes "demo") words) a.demo b.demo h.demo k.demo in
    let wide : a.wide ≡ b.wide = one_flag (option_value command (codes "wide") words) a.wide b.wide h.wide k.wide in
    same_settings a b count day demo wide
