use mathlib.Core.Logic.{∥∥₁_map}
use Rattle.std.proofs.Common.{subst}
use Rattle.commands.specs.Form.{Form, file, submit, release, withdraw}
use Rattle.commands.specs.Reading.{asked}
use Rattle.commands.specs.declared.verb.Verb.TheVariants.{File, Submit, Release, Withdraw}
use Rattle.console.proofs.Replies.{replied, unfit, changed, renamed, map_told}
use Rattle.console.proofs.Sessions.{reached_more}
use Rattle.console.proofs.console.Console.answer.Goals as goal
use Rattle.console.proofs.console.Console.answer.Goals.{in-File, in-Submit, in-Release, in-Withdraw}

pub returns-in-Err : goal.returns-in-Err
returns-in-Err c = unfit c.in-Err.fault c.in-Err.ensures c.refused.ensures

pub invariant_of-self : goal.invariant_of-self
invariant_of-self c =
    let form = subst (λ v. Form c.args.line.now (asked v)) c.in-File.is c.in-Ok.ensures in
    record { reached = ∥∥₁_map c.args.self.now.reached (reached_more (c.file.ensures.did c.args.line.now form)) }

pub invariant_of-self-in-Submit : goal.invariant_of-self-in-Submit
invariant_of-self-in-Submit c =
    let form = subst (λ v. Form c.args.line.now (asked v)) c.in-Submit.is c.in-Ok.ensures in
    record { reached = ∥∥₁_map c.args.self.now.reached (reached_more (c.submit.ensures.did c.args.line.now form)) }

pub invariant_of-self-in-Release : goal.invariant_of-self-in-Release
invariant_of-self-in-Release c =
    let form = subst (λ v. Form c.args.line.now (asked v)) c.in-Release.is c.in-Ok.ensures in
    record { reached = ∥∥₁_map c.args.self.now.reached (reached_more (c.release.ensures.did c.args.self.now.map.entries c.args.line.now form)) }

pub invariant_of-self-in-Withdraw : goal.invariant_of-self-in-Withdraw
invariant_of-self-in-Withdraw c =
    let form = subst (λ v. Form c.args.line.now (asked v)) c.in-Withdraw.is c.in-Ok.ensures in
    record { reached = ∥∥₁_map c.args.self.now.reached (reached_more (c.withdraw.ensures.did c.args.self.now.map.entries c.args.line.now form)) }

pub unwrap-self-requires : goal.unwrap-self-requires
unwrap-self-requires c =
    let form = subst (λ v. Form c.args.line.now (asked v)) c.in-Rename.is c.in-Ok.ensures in
    changed c.args.self.now.map.entries c.with.result form c.with.ensures

pub invariant_of-self-in-Rename : goal.invariant_of-self-in-Rename
invariant_of-self-in-Rename c =
    let form = subst (λ v. Form c.args.line.now (asked v)) c.in-Rename.is c.in-Ok.ensures in
    let map = rw c.unwrap-self.ensures at c.with.ensures in
    record { reached = ∥∥₁_map c.args.self.now.reached (reached_more (renamed form map.2)) }

pub returns-in-Rename : goal.returns-in-Rename
returns-in-Rename c =
    let form = subst (λ v. Form c.args.line.now (asked v)) c.in-Rename.is c.in-Ok.ensures in
    let map = rw c.unwrap-self.ensures at c.with.ensures in
    map_told (renamed form map.2) c.renamed.ensures

pub returns : goal.returns
returns c =
    let line = c.args.line.now in
    let entries = c.args.self.now.map.entries in
    elim c.match-command.branch [
      | in-File w ↦ (
          let form = subst (λ v. Form line (asked v)) w.in-File.is c.in-Ok.ensures in
          let did = w.file.ensures in
          rw w.self-is (replied (file w.in-File.slot w.in-File.text.now) File w.file.result form did.did did.short (rw w.verb-is at c.reply.ensures)))
      | in-Submit w ↦ (
          let form = subst (λ v. Form line (asked v)) w.in-Submit.is c.in-Ok.ensures in
          let did = w.submit.ensures in
          rw w.self-is (replied (submit w.in-Submit.slot w.in-Submit.text.now) Submit w.submit.result form did.did did.short (rw w.verb-is at c.reply.ensures)))
      | in-Release w ↦ (
          let form = subst (λ v. Form line (asked v)) w.in-Release.is c.in-Ok.ensures in
          let did = w.release.ensures in
          rw w.self-is (replied (release w.in-Release.slot) Release w.release.result form (did.did entries) did.short (rw w.verb-is at c.reply.ensures)))
      | in-Withdraw w ↦ (
          let form = subst (λ v. Form line (asked v)) w.in-Withdraw.is c.in-Ok.ensures in
          let did = w.withdraw.ensures in
          rw w.self-is (replied (withdraw w.in-Withdraw.slot) Withdraw w.withdraw.result form (did.did entries) did.short (rw w.verb-is at c.reply.ensures)))
    ]
