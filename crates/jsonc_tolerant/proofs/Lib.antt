mod Inserted
