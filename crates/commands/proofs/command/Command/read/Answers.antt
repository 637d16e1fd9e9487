use Rattle.std.proofs.Common.{◌≡◌, Ok, Err, ap, ◌∙◌, rules}
use Rattle.std.proofs.lemmas.Result.{MatchResult-weaker}
use Rattle.commands.specs.Letters.{letter_of}
use Rattle.commands.specs.declared.command.Command.TheVariants.{File, Submit, Release, Withdraw, Rename}
use Rattle.commands.proofs.Fits.{file_fits, submit_fits, release_fits, withdraw_fits, rename_fits, made}
use Rattle.commands.proofs.command.Command.read.Goals as goal

pub returns-in-File : goal.returns-in-File
returns-in-File c =
    let line = c.args.line.now in
    let letter = c.in_ok-verb.ensures.1 ∙ ap letter_of c.in-File.is in
    let out = c.map.result in
    let mapped = MatchResult-weaker c.slot_and_text.result {P' = λ v. out ≡ Ok (File v.0 v.1)} {Q' = λ f. out ≡ Err f} c.map.ensures.cases (λ v k. search rules) (λ f k. k) in
    made line c.slot_and_text.result out _ (λ v. File v.0 v.1) (λ v h. file_fits line v.1.now v.0 letter h.0 h.1) c.slot_and_text.ensures mapped

pub returns-in-Submit : goal.returns-in-Submit
returns-in-Submit c =
    let line = c.args.line.now in
    let letter = c.in_ok-verb.ensures.1 ∙ ap letter_of c.in-Submit.is in
    let out = c.map-in-Submit.result in
    let mapped = MatchResult-weaker c.slot_and_text-in-Submit.result {P' = λ v. out ≡ Ok (Submit v.0 v.1)} {Q' = λ f. out ≡ Err f} c.map-in-Submit.ensures.cases (λ v k. search rules) (λ f k. k) in
    made line c.slot_and_text-in-Submit.result out _ (λ v. Submit v.0 v.1) (λ v h. submit_fits line v.1.now v.0 letter h.0 h.1) c.slot_and_text-in-Submit.ensures mapped

pub returns-in-Release : goal.returns-in-Release
returns-in-Release c =
    let line = c.args.line.now in
    let letter = c.in_ok-verb.ensures.1 ∙ ap letter_of c.in-Release.is in
    let out = c.map-in-Release.result in
    let mapped = MatchResult-weaker c.slot_alone.result {P' = λ s. out ≡ Ok (Release s)} {Q' = λ f. out ≡ Err f} c.map-in-Release.ensures.cases (λ s k. search rules) (λ f k. k) in
    made line c.slot_alone.result out _ (λ s. Release s) (λ s h. release_fits line s letter h.0 h.1) c.slot_alone.ensures mapped

pub returns-in-Withdraw : goal.returns-in-Withdraw
returns-in-Withdraw c =
    let line = c.args.line.now in
    let letter = c.in_ok-verb.ensures.1 ∙ ap letter_of c.in-Withdraw.is in
    let out = c.map-in-Withdraw.result in
    let mapped = MatchResult-weaker c.slot_alone-in-Withdraw.result {P' = λ s. out ≡ Ok (Withdraw s)} {Q' = λ f. out ≡ Err f} c.map-in-Withdraw.ensures.cases (λ s k. search rules) (λ f k. k) in
    made line c.slot_alone-in-Withdraw.result out _ (λ s. Withdraw s) (λ s h. withdraw_fits line s letter h.0 h.1) c.slot_alone-in-Withdraw.ensures mapped

pub returns-in-Rename : goal.returns-in-Rename
returns-in-Rename c =
    let line = c.args.line.now in
    let letter = c.in_ok-verb.ensures.1 ∙ ap letter_of c.in-Rename.is in
    let out = c.map-in-Rename.result in
    let mapped = MatchResult-weaker c.two_actions.result {P' = λ v. out ≡ Ok (Rename v.0 v.1)} {Q' = λ f. out ≡ Err f} c.map-in-Rename.ensures.cases (λ v k. search rules) (λ f k. k) in
    made line c.two_actions.result out _ (λ v. Rename v.0 v.1) (λ v h. rename_fits line v.0 v.1 letter h) c.two_actions.ensures mapped
