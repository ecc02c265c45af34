use Rattle.jsonc_program.proofs.Jobs.{asked_by}
use Rattle.jsonc_program.proofs.job.job_of.Goals as goal

pub returns-in-Check-clause-asked : goal.returns-in-Check-clause-asked
returns-in-Check-clause-asked c = asked_by c.args.command _ c.args.must_exist c.args.text.now c.check_job.result c.in-Check.is (c.check_job.ensures c.args.must_exist c.args.text.now)

pub returns-in-Set-clause-asked : goal.returns-in-Set-clause-asked
returns-in-Set-clause-asked c = asked_by c.args.command _ c.args.must_exist c.args.text.now c.set_job.result c.in-Set.is (c.set_job.ensures c.in-Set.value)

pub returns-in-Remove-clause-asked : goal.returns-in-Remove-clause-asked
returns-in-Remove-clause-asked c = asked_by c.args.command _ c.args.must_exist c.args.text.now c.remove_job.result c.in-Remove.is (c.remove_job.ensures c.args.text.now)

pub returns-in_ok-place_if-in-Sort-clause-asked : goal.returns-in_ok-place_if-in-Sort-clause-asked
returns-in_ok-place_if-in-Sort-clause-asked c = asked_by c.args.command _ c.args.must_exist c.args.text.now c.sort_job.result c.in-Sort.is (c.sort_job.ensures c.in-Sort.at c.args.must_exist c.args.text.now c.in_ok-place_if-in-Sort.ensures.named)

pub returns-in_ok-place-in-Drop-clause-asked : goal.returns-in_ok-place-in-Drop-clause-asked
returns-in_ok-place-in-Drop-clause-asked c = asked_by c.args.command _ c.args.must_exist c.args.text.now c.drop_job.result c.in-Drop.is (c.drop_job.ensures c.in-Drop.at c.args.text.now c.in_ok-place-in-Drop.ensures.named)

pub returns-in_ok-place-in-Get-clause-asked : goal.returns-in_ok-place-in-Get-clause-asked
returns-in_ok-place-in-Get-clause-asked c = asked_by c.args.command _ c.args.must_exist c.args.text.now c.get_job.result c.in-Get.is (c.get_job.ensures c.in-Get.at c.args.must_exist c.args.text.now c.in_ok-place-in-Get.ensures.named)

pub returns-in_ok-place-in-Put-clause-asked : goal.returns-in_ok-place-in-Put-clause-asked
returns-in_ok-place-in-Put-clause-asked c = asked_by c.args.command _ c.args.must_exist c.args.text.now c.put_job.result c.in-Put.is (c.put_job.ensures c.in-Put.at c.in-Put.value c.in_ok-place-in-Put.ensures.named)

pub returns-in_ok-place-in-Rename-clause-asked : goal.returns-in_ok-place-in-Rename-clause-asked
returns-in_ok-place-in-Rename-clause-asked c = asked_by c.args.command _ c.args.must_exist c.args.text.now c.rename_job.result c.in-Rename.is (c.rename_job.ensures c.in-Rename.at c.args.must_exist c.args.text.now c.in_ok-place-in-Rename.ensures.named)

pub returns-in_ok-place-in-Comment-clause-asked : goal.returns-in_ok-place-in-Comment-clause-asked
returns-in_ok-place-in-Comment-clause-asked c = asked_by c.args.command _ c.args.must_exist c.args.text.now c.comment_job.result c.in-Comment.is (c.comment_job.ensures c.in-Comment.at c.in-Comment.text c.args.must_exist c.in_ok-place-in-Comment.ensures.named)

pub returns-in-Format-clause-asked : goal.returns-in-Format-clause-asked
returns-in-Format-clause-asked c = asked_by c.args.command _ c.args.must_exist c.args.text.now c.format_job.result c.in-Format.is (c.format_job.ensures c.args.must_exist c.args.text.now)

pub returns-in-Patch-clause-asked : goal.returns-in-Patch-clause-asked
returns-in-Patch-clause-asked c = asked_by c.args.command _ c.args.must_exist c.args.text.now c.patch_job.result c.in-Patch.is (c.patch_job.ensures c.in-Patch.patch c.args.must_exist)
