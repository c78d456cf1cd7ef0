pub mod Laying
pub mod Resumes
