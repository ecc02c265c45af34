mod Apart
mod Telling
