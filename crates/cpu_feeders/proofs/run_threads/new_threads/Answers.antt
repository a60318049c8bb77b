use Rattle.std.proofs.Common.{◌≡◌, ◌<◌, ◌≤◌, ◌+◌, ℕ, length, sym, ap, ◌∙◌, subst}
use Rattle.std.specs.List.{AllZip}
use Rattle.cpu_feeders.specs.inside.FreshWorkers.{IsDealt}
use Rattle.cpu_feeders.specs.inside.Openings.{IsOpened}
use Rattle.cpu_feeders.specs.inside.MemberSeats.{fresh_users}
use Rattle.cpu_feeders.proofs.run_threads.new_threads.Goals as goal

pub open_group-requires : goal.open_group-requires
open_group-requires g c = record {
  few = subst (λ (n : ℕ). n ≤ 8) (sym (c.len-cpus.ensures ∙ c.args.sources.ok.0 ∙ c.requires.sources))
      c.args.job.now.runnable.few;
}

pub deal-requires-clause-some : goal.deal-requires-clause-some
deal-requires-clause-some g c =
    subst (λ (n : ℕ). 0 < n) (sym (c.len-cpus.ensures ∙ c.args.sources.ok.0 ∙ c.requires.sources)) c.args.job.now.runnable.some

pub deal-requires-clause-few : goal.deal-requires-clause-few
deal-requires-clause-few g c =
    subst (λ (n : ℕ). n ≤ 8) (sym (c.len-cpus.ensures ∙ c.args.sources.ok.0 ∙ c.requires.sources)) c.args.job.now.runnable.few

pub threads_of-requires-clause-group : goal.threads_of-requires-clause-group
threads_of-requires-clause-group g c =
    let group = c.in_ok-group.group in
    let cpus : c.len-cpus.result ≡ length c.args.job.now.setup.cpus =
    c.len-cpus.ensures ∙ c.args.sources.ok.0 ∙ c.requires.sources in
    record {
      count = c.in_ok-group.ensures.count ∙ c.members.ensures.value;
      opened = subst (λ (n : ℕ). AllZip (IsOpened c.args.job.now.setup.shape n) group.members.items group.ends.items) cpus
          c.in_ok-group.ensures.opened;
      users_are = c.in_ok-group.ensures.users ∙ ap (λ (n : ℕ). fresh_users group.members.items 0 (n + 1)) cpus;
    }

pub threads_of-requires-clause-dealt : goal.threads_of-requires-clause-dealt
threads_of-requires-clause-dealt g c =
    let dealt = c.in_ok-dealt.dealt in
    subst (λ (n : ℕ). IsDealt n dealt.dealer dealt.seats.items dealt.spare.items)
    (c.len-cpus.ensures ∙ c.args.sources.ok.0 ∙ c.requires.sources)
    c.in_ok-dealt.ensures
